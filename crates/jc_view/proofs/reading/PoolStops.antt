-- Where the reading of a pool stops, and what stands there.
use Rattle.std.proofs.Common.{◌≡◌, ℕ, zero, suc, ◌+◌, ◌-◌, Bool, true, false, ◌&&◌, eqb, List, [], ◌∷◌, ◌++◌, Option, Some, None, Ok, Err, refl, sym, ap, subst, ◌∙◌, append_assoc, arith, inl, inr, length-append}
use Rattle.std.proofs.lemmas.Bool.{eqb-true}
use Rattle.jc_base.specs.Cursor.{Reading}
use Rattle.jc_base.specs.Endian.{big_number}
use Rattle.jc_view.specs.declared.constant_pool.ConstantKind.{ConstantKind}
use Rattle.jc_view.specs.declared.constant_pool.ConstantKind.TheVariants as kinds
use Rattle.jc_view.specs.declared.parse_error.ParseError.{ParseError}
use Rattle.jc_view.specs.declared.parse_error.ParseError.TheVariants as errors
use Rattle.jc_view.specs.ConstantPool.{kind_of, tag_of, kind_of_tag, is_wide, constant_bytes}
use Rattle.jc_view.specs.ClassFile.{all_slots}
use Rattle.jc_view.specs.Places.{places_of}
use Rattle.jc_view.specs.Refusal.{Owes, IsNoTag, IsWideTag}
use Rattle.jc_view.specs.Reading.{after, after_body, constant_value, moved_to, ◌>>=◌, or_refusal, unless, first_constant, Entry, entry_at, entries_from, with_front}
use Rattle.jc_view.proofs.reading.BigEndian.{IsBytes, after_text}
use Rattle.jc_view.proofs.reading.Steps.{bind_ok, err_is, bind_err, or_ok, or_err, unless_err}
use Rattle.jc_view.proofs.reading.FirstConstant.{tag_of_kind, kind_of_its_tag, first_byte, ok_is, TakesFirst, tag_takes, first_takes}
use Rattle.jc_view.proofs.reading.Pools.{pending, slots_is, pool_bytes, Pool, entries_front, wide_goes_on, next_place}

abbrev pub Stops : ℕ → Reading → ParseError → Type 0
Stops indexes old (errors.Tag at) = (o : Owes old.place old.rest indexes at) × IsNoTag o.tag
Stops indexes old (errors.Wide at) = (o : Owes old.place old.rest indexes at) × (o.left ≡ 1) × IsWideTag o.tag
Stops indexes old errors.Short = Unit {0}
Stops indexes old e = ⊥

abbrev owes_later : (is_last : Bool) (indexes m at : ℕ) (old mid : Reading) (kind : ConstantKind) → TakesFirst is_last old kind mid → indexes ≡ suc (pending (is_wide kind) + m) → Owes mid.place mid.rest m at → Owes old.place old.rest indexes at
owes_later is_last indexes m at old mid kind first count o =
    let c = constant_value old.rest in
    let wide_is : pending (is_wide (kind_of c)) ≡ pending (is_wide kind) = ap (λ k. pending (is_wide k)) first.same in
    record {
      constants = c ∷ o.constants;
      whole = (first.fits, o.whole);
      tag = o.tag;
      rest = o.rest;
      stand = first.takes.parts ∙ ap (λ (r : List ℕ). constant_bytes c ++ r) o.stand ∙ sym (append_assoc (constant_bytes c) (pool_bytes o.constants) (o.tag ∷ o.rest));
      here = omega (arith, o.here, next_place is_last old kind mid first, length-append (constant_bytes c) (pool_bytes o.constants));
      left = o.left;
      one_at_least = o.one_at_least;
      filled = omega (arith, slots_is c, o.filled, count, wide_is);
    }

stops_later : (is_last : Bool) (indexes m : ℕ) (old mid : Reading) (kind : ConstantKind) (e : ParseError) → TakesFirst is_last old kind mid → indexes ≡ suc (pending (is_wide kind) + m) → Stops m mid e → Stops indexes old e
stops_later is_last indexes m old mid kind (errors.Tag at) first count h = (owes_later is_last indexes m at old mid kind first count h.0, h.1)
stops_later is_last indexes m old mid kind (errors.Wide at) first count h = (owes_later is_last indexes m at old mid kind first count h.0, h.1, h.2)
stops_later is_last indexes m old mid kind errors.Short first count h = tt
stops_later is_last indexes m old mid kind errors.Magic first count h = h
stops_later is_last indexes m old mid kind errors.Version first count h = h
stops_later is_last indexes m old mid kind errors.Count first count h = h
stops_later is_last indexes m old mid kind (errors.Trailing at) first count h = h
stops_later is_last indexes m old mid kind errors.NoName first count h = h
stops_later is_last indexes m old mid kind errors.NoMemory first count h = h

no_tag : (tag : ℕ) → kind_of_tag tag ≡ None → IsNoTag tag
no_tag tag e kind same = absurd (let its = kind_of_its_tag kind in let here : kind_of_tag tag ≡ Some kind = subst (λ (n : ℕ). kind_of_tag n ≡ Some kind) same its in cc)

wide_tag_of : (kind : ConstantKind) → is_wide kind ≡ true → IsWideTag (tag_of kind)
wide_tag_of kinds.Long e = inl refl
wide_tag_of kinds.Double e = inr refl
wide_tag_of kind e = absurd cc

and_true : (a b : Bool) → a && b ≡ true → (a ≡ true) × (b ≡ true)
and_true true true e = (refl, refl)
and_true true false e = absurd cc
and_true false b e = absurd cc

-- another constant is owed at the front
abbrev owes_here : (left : ℕ) (old : Reading) (body : List ℕ) → IsBytes old.rest → after 1 old.rest ≡ Some body → Owes old.place old.rest (suc left) old.place
owes_here left old body fits e = record {
  constants = [];
  whole = tt;
  tag = big_number 1 old.rest;
  rest = body;
  stand = (tag_takes old.rest body fits e).parts;
  here = omega arith;
  left = suc left;
  one_at_least = omega arith;
  filled = omega arith;
}

stops_by : (left : ℕ) (old : Reading) (d e : ParseError) → d ≡ e → Stops left old d → Stops left old e
stops_by left old d e same h = subst (λ (x : ParseError). Stops left old x) same h

first_stops : (left : ℕ) (old : Reading) (e : ParseError) → IsBytes old.rest → first_constant (eqb left 0) old ≡ Err e → Stops (suc left) old e
unfolding first_constant
first_stops left old e fits h =
    elim (bind_err (or_refusal (after 1 old.rest) errors.Short) (λ body. or_refusal (kind_of_tag (big_number 1 old.rest)) (errors.Tag old.place) >>= λ kind. unless (eqb left 0 && is_wide kind) (errors.Wide old.place) >>= λ room. or_refusal (after_body kind body) errors.Short >>= λ rest. Ok (kind, moved_to old rest)) e h) [
      | inl cut ↦ stops_by (suc left) old errors.Short e (or_err _ errors.Short e cut).1 tt
      | inr a ↦ elim (bind_err (or_refusal (kind_of_tag (big_number 1 old.rest)) (errors.Tag old.place)) (λ kind. unless (eqb left 0 && is_wide kind) (errors.Wide old.place) >>= λ room. or_refusal (after_body kind a.0) errors.Short >>= λ rest. Ok (kind, moved_to old rest)) e a.2) [
        | inl none ↦
            let o = or_err _ (errors.Tag old.place) e none in
            stops_by (suc left) old (errors.Tag old.place) e o.1 (owes_here left old a.0 fits (or_ok _ _ _ a.1), no_tag (big_number 1 old.rest) o.0)
        | inr b ↦ elim (bind_err (unless (eqb left 0 && is_wide b.0) (errors.Wide old.place)) (λ room. or_refusal (after_body b.0 a.0) errors.Short >>= λ rest. Ok (b.0, moved_to old rest)) e b.2) [
          | inl full ↦
              let u = unless_err (eqb left 0 && is_wide b.0) (errors.Wide old.place) e full in
              let both_true = and_true (eqb left 0) (is_wide b.0) u.0 in
              let last : left ≡ 0 = eqb-true left 0 both_true.0 in
              let tag = tag_of_kind (big_number 1 old.rest) b.0 (or_ok _ _ _ b.1) in
              stops_by (suc left) old (errors.Wide old.place) e u.1 (owes_here left old a.0 fits (or_ok _ _ _ a.1), omega (arith, last), subst (λ (n : ℕ). IsWideTag n) (sym tag) (wide_tag_of b.0 both_true.1))
          | inr c ↦ elim (bind_err (or_refusal (after_body b.0 a.0) errors.Short) (λ rest. Ok (b.0, moved_to old rest)) e c.2) [
            | inl cut ↦ stops_by (suc left) old errors.Short e (or_err _ errors.Short e cut).1 tt
            | inr d ↦ absurd (let impossible = d.2 in cc)
          ]
        ]
      ]
    ]

entries_stop : (left : ℕ) (is_second : Bool) (indexes : ℕ) (old : Reading) (e : ParseError) → IsBytes old.rest → left ≡ pending is_second + indexes
    → entries_from left is_second old ≡ Err e → Stops indexes old e
unfolding entries_from entry_at
entries_stop zero is_second indexes old e fits count h = absurd cc
entries_stop (suc left) true indexes old e fits count h =
    elim (bind_err (entries_from left false old) (λ others. Ok (None ∷ others.0, others.1)) e h) [
      | inl stops ↦ entries_stop left false indexes old e fits (omega arith) stops
      | inr b ↦ absurd (let impossible = b.2 in cc)
    ]
entries_stop (suc left) false indexes old e fits count h =
    let same : suc left ≡ indexes = omega arith in
    elim (bind_err (entry_at false (eqb left 0) old) (λ entry. entries_from left entry.0.is_wide entry.1 >>= λ others. Ok (entry.0.offset ∷ others.0, others.1)) e h) [
      | inl stops ↦ elim (bind_err (first_constant (eqb left 0) old) (λ first. Ok (record { offset = Some old.place; is_wide = is_wide first.0 }, first.1)) e stops) [
        | inl at_first ↦ subst (λ (n : ℕ). Stops n old e) same (first_stops left old e fits at_first)
        | inr b ↦ absurd (let impossible = b.2 in cc)
      ]
      | inr a ↦
          let f = bind_ok (first_constant (eqb left 0) old) (λ first. Ok (record { offset = Some old.place; is_wide = is_wide first.0 }, first.1)) a.0 a.1 in
          let first = first_takes (eqb left 0) old f.0 fits f.1 in
          let entry_is : ◌≡◌ {A = Entry × Reading} (record { offset = Some old.place; is_wide = is_wide f.0.0 }, f.0.1) a.0 = ok_is _ a.0 f.2 in
          let rest : (entries_from left (is_wide f.0.0) f.0.1 >>= λ others. Ok (Some old.place ∷ others.0, others.1)) ≡ Err e =
          subst (λ (x : Entry × Reading). (entries_from left x.0.is_wide x.1 >>= λ others. Ok (x.0.offset ∷ others.0, others.1)) ≡ Err e) (sym entry_is) a.2 in
          let w = wide_goes_on (is_wide f.0.0) left first.room in
          elim (bind_err (entries_from left (is_wide f.0.0) f.0.1) (λ others. Ok (Some old.place ∷ others.0, others.1)) e rest) [
            | inl later ↦ stops_later (eqb left 0) indexes w.0 old f.0.1 f.0.0 e first (omega (arith, w.1, count)) (entries_stop left (is_wide f.0.0) w.0 f.0.1 e first.takes.rest_fits w.1 later)
            | inr b ↦ absurd (let impossible = b.2 in cc)
          ]
    ]

pub pool_stops : (indexes : ℕ) (old : Reading) (e : ParseError) → IsBytes old.rest → entries_from indexes false old ≡ Err e → Stops indexes old e
pool_stops indexes old e fits h = entries_stop indexes false indexes old e fits (omega arith) h

-- ---- what stands in the bytes is where reading stops

none_by : {A : Type 0} (o : Option A) → ((x : A) → o ≡ Some x → ⊥) → o ≡ None
none_by None h = refl
none_by (Some x) h = absurd (h x refl)

-- a front that no constant stands at
at_tag : (left place tag : ℕ) (rest : List ℕ) → IsNoTag tag → entries_from (suc left) false (record { place = place; rest = tag ∷ rest }) ≡ Err (errors.Tag place)
unfolding entries_from entry_at first_constant
at_tag left place tag rest none =
    let head : after 1 (tag ∷ rest) ≡ Some rest = after_text (tag ∷ []) rest 1 refl in
    let no_kind : kind_of_tag (big_number 1 (tag ∷ rest)) ≡ None = ap kind_of_tag (first_byte tag rest) ∙ none_by (kind_of_tag tag) (λ kind e. none kind (sym (tag_of_kind tag kind e))) in
    rw (head, no_kind) refl

at_wide : (place tag : ℕ) (rest : List ℕ) → IsWideTag tag → entries_from 1 false (record { place = place; rest = tag ∷ rest }) ≡ Err (errors.Wide place)
unfolding entries_from entry_at first_constant
at_wide place tag rest wide =
    let head : after 1 (tag ∷ rest) ≡ Some rest = after_text (tag ∷ []) rest 1 refl in
    elim wide [
      | inl five ↦ let kind : kind_of_tag (big_number 1 (tag ∷ rest)) ≡ Some kinds.Long = ap kind_of_tag (first_byte tag rest ∙ five) in rw (head, kind) refl
      | inr six ↦ let kind : kind_of_tag (big_number 1 (tag ∷ rest)) ≡ Some kinds.Double = ap kind_of_tag (first_byte tag rest ∙ six) in rw (head, kind) refl
    ]

-- what stands behind the whole constants
behind_whole : (indexes : ℕ) (old : Reading) (at : ℕ) (o : Owes old.place old.rest indexes at)
    → entries_from indexes false old ≡ with_front (places_of old.place o.constants) (entries_from o.left false (record { place = at; rest = o.tag ∷ o.rest }))
behind_whole indexes old at o =
    ap (λ (n : ℕ). entries_from n false old) (sym o.filled)
    ∙ ap (λ (xs : List ℕ). entries_from (all_slots o.constants + o.left) false (record { place = old.place; rest = xs })) o.stand
    ∙ entries_front o.constants o.left old.place (o.tag ∷ o.rest) o.whole
    ∙ ap (λ (p : ℕ). with_front (places_of old.place o.constants) (entries_from o.left false (record { place = p; rest = o.tag ∷ o.rest }))) (sym o.here)

pub front_err : (front : List (Option ℕ)) (read : Pool) (e : ParseError) → read ≡ Err e → with_front front read ≡ Err e
front_err front (Ok x) e h = absurd cc
front_err front (Err d) e h = ap (λ (x : ParseError). Err x) (err_is d e h)

pub tag_stops : (indexes : ℕ) (old : Reading) (at : ℕ) (o : Owes old.place old.rest indexes at) → IsNoTag o.tag → entries_from indexes false old ≡ Err (errors.Tag at)
tag_stops indexes old at o none =
    let k : o.left ≡ suc (o.left - 1) = omega (arith, o.one_at_least) in
    behind_whole indexes old at o
    ∙ front_err (places_of old.place o.constants) _ (errors.Tag at) (ap (λ (n : ℕ). entries_from n false (record { place = at; rest = o.tag ∷ o.rest })) k ∙ at_tag (o.left - 1) at o.tag o.rest none)

pub wide_stops : (indexes : ℕ) (old : Reading) (at : ℕ) (o : Owes old.place old.rest indexes at) → o.left ≡ 1 → IsWideTag o.tag → entries_from indexes false old ≡ Err (errors.Wide at)
wide_stops indexes old at o last wide =
    behind_whole indexes old at o
    ∙ front_err (places_of old.place o.constants) _ (errors.Wide at) (ap (λ (n : ℕ). entries_from n false (record { place = at; rest = o.tag ∷ o.rest })) last ∙ at_wide at o.tag o.rest wide)
