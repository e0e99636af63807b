use Rattle.std.proofs.Common.{◌≡◌, Option, Some, None, refl, sym, ap, subst, ◌∙◌, inl, inr, MutBor}
use Rattle.std.specs.Option.{IsSome, ghost_name_of, option_copied_mut}
use Rattle.std.specs.BTreeMap.{get_by}
use Rattle.std.specs.FinMap as fin
use borrow.Follows.Closed.{read_of}
use Rattle.jc_report.specs.RequiredRows.{spelled}
use Rattle.jc_base.proofs.maps.TreeEntries.{finite, query, get-finite, written-finite}
use Rattle.jc_linkage.proofs.row_map.RowMap.get_mut.Goals as goal

-- what the lender ends as, with the last value behind a reference or with none
lent : {D V : Type 0} (r : Option (MutBor V)) {o : Option V} → option_copied_mut r ≡ o → (f g : V → D) (a b : D) → (IsSome o → (w : V) → f w ≡ g w) → a ≡ b → read_of (ghost_name_of r) f a ≡ read_of (ghost_name_of r) g b
lent None is f g a b written e = ap inr e
lent (Some x) is f g a b written e = λ i. inl (x.ghost_name, λ w. written (subst IsSome is refl) w i)

pub returns : goal.returns
returns g c =
    let key = spelled c.args.row.now in
    let old = c.self.inside.entries in
    let follows = c.get_mut.follows in
    let found : option_copied_mut c.get_mut.result ≡ get_by (query spelled key) old = follows.claims.0 in (
      lent c.get_mut.result {o = get_by (query spelled key) old} found _ _ _ _
          (λ there w. written-finite spelled key old (follows.lender w) w there (follows.holds w) ∙ ap (λ m. fin.insert m key w) c.self.view_is)
          (ap (λ m. finite spelled m.entries) follows.holds-at-none ∙ c.self.view_is),
      record {
        value = found ∙ sym (get-finite spelled old.entries key) ∙ ap (λ m. fin.get m key) c.self.view_is;
        writes_back = tt;
      },
    )
