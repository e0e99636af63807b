use Rattle.std.proofs.Common.{◌≡◌, ◌∙◌, ℕ, not, List, Bool, ap, sym, subst, Vec, Global, ◌⊎◌, inl, inr, ⊎_elim}
use Rattle.std.proofs.lemmas.Result.{IfOk-weaker}
use Rattle.std.specs.List.{Contains, filter}
use Rattle.jc_linkage.specs.inside.RowLists.{AreMarks, IsThere, is_marked}
use Rattle.jc_linkage.proofs.required_rows.Marked.{come_or_there}
use Rattle.jc_linkage.proofs.required_rows.NumberedRows.{kept_passes}
use Rattle.jc_linkage.proofs.row_list.coming.Goals as goal

pub returns-clause-sound : goal.returns-clause-sound
returns-clause-sound c =
    let numbers = c.args.numbers.now in
    let marks = c.deref-2.result.now in
    IfOk-weaker c.unmarked.result
    (λ (left : Vec ℕ Global). left.items ≡ filter (λ n. not (is_marked marks n)) numbers)
    (λ (left : Vec ℕ Global). (n : ℕ) → Contains left.items n → Contains numbers n)
    (λ left e n there. (kept_passes (λ n. not (is_marked marks n)) numbers n (subst (λ (xs : List ℕ). Contains xs n) e there)).0)
    c.unmarked.ensures

pub returns-clause-complete : goal.returns-clause-complete
returns-clause-complete c =
    let numbers = c.args.numbers.now in
    let rows = c.args.rows.now in
    let marks = c.deref-2.result.now in
    let there = c.in_ok-there.there.items in
    let marked : AreMarks there marks =
    λ n t. subst (λ (xs : List ℕ). Contains xs n) c.deref.ensures.value
    (c.in_ok-marks.ensures n (ap (λ (ms : List Bool). is_marked ms n) (sym c.deref-2.ensures.value) ∙ t)) in
    IfOk-weaker c.unmarked.result
    (λ (left : Vec ℕ Global). left.items ≡ filter (λ n. not (is_marked marks n)) numbers)
    (λ (left : Vec ℕ Global). (n : ℕ) → Contains numbers n → Contains left.items n ⊎ IsThere rows n)
    (λ left e n c_n. ⊎_elim
    (λ come. inl (subst (λ (xs : List ℕ). Contains xs n) (sym e) come))
    (λ t. inr (subst (λ (xs : List ℕ). Contains xs n) c.in_ok-there.ensures t))
    (come_or_there numbers there marks marked n c_n))
    c.unmarked.ensures
