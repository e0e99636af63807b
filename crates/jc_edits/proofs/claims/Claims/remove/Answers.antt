use Rattle.std.proofs.Common.{◌≡◌, ◌&&◌, not, true, false, ℕ, List, Some, sym, ap, subst, ◌∙◌}
use Rattle.std.specs.FinMap as fin
use Rattle.jc_base.specs.Bytes.{same_bytes}
use Rattle.jc_edits.specs.inside.Claims.{NoneEmpty, has_claim, has_path}
use Rattle.jc_edits.proofs.holding.ClaimsOfPaths.{has_key-remove, removed, emptied, none_empty-insert, none_empty-remove}
use Rattle.jc_edits.proofs.claims.Claims.remove.Goals as goal
use Rattle.jc_edits.proofs.claims.Claims.remove.Goals.{in-Some-1, in-None-1}

pub returns-then-is_empty : goal.returns-then-is_empty
returns-then-is_empty c =
    let name = c.args.name.now in
    let path = c.args.path.now in
    let paths = c.in-Some.paths.now in
    let old = c.self.inside.by_name in
    let same : c.match-remove.self ≡ c.remove-then-is_empty.new.self = elim c.match-remove.branch [ in-Some-1 w ↦ w.self-is | in-None-1 w ↦ w.self-is ] in
    let less : (p : List ℕ) → fin.contains_key c.remove.new.self p ≡ (not (same_bytes p path) && has_path (Some paths) p) =
    λ p. ap (λ x. fin.contains_key x p) c.remove.ensures.removed ∙ has_key-remove paths path p in
    λ n p. ap (λ x. has_claim x n p) (same ∙ c.remove-then-is_empty.ensures.removed)
    ∙ emptied old name c.remove.new.self (c.is_empty.ensures.0 c.if-is_empty.true) n p
    ∙ removed old name (Some paths) c.remove.new.self path (sym c.in-Some.ensures.value) less n p
    ∙ ap (λ m. not (same_bytes n name && same_bytes p path) && has_claim m n p) c.self.view_is

pub returns-else-is_empty : goal.returns-else-is_empty
returns-else-is_empty c =
    let name = c.args.name.now in
    let path = c.args.path.now in
    let paths = c.in-Some.paths.now in
    let less : (p : List ℕ) → fin.contains_key c.remove.new.self p ≡ (not (same_bytes p path) && has_path (Some paths) p) =
    λ p. ap (λ x. fin.contains_key x p) c.remove.ensures.removed ∙ has_key-remove paths path p in
    λ n p. removed c.self.inside.by_name name (Some paths) c.remove.new.self path (sym c.in-Some.ensures.value) less n p
    ∙ ap (λ m. not (same_bytes n name && same_bytes p path) && has_claim m n p) c.self.view_is

pub invariant_of-self : goal.invariant_of-self
invariant_of-self c =
    subst NoneEmpty (sym c.remove-then-is_empty.ensures.removed) (none_empty-remove c.self.inside.by_name c.args.name.now c.remove.new.self c.self.invariant)

pub invariant_of-self-then-is_empty-2 : goal.invariant_of-self-then-is_empty-2
invariant_of-self-then-is_empty-2 c =
    subst NoneEmpty (sym c.remove-then-is_empty.ensures.removed) (none_empty-remove c.self.inside.by_name c.args.name.now c.remove.new.self c.self.invariant)

pub invariant_of-self-else-is_empty : goal.invariant_of-self-else-is_empty
invariant_of-self-else-is_empty c =
    none_empty-insert c.self.inside.by_name c.args.name.now c.remove.new.self c.self.invariant
    (λ e. absurd (let both : false ≡ true = sym c.if-is_empty.false ∙ c.is_empty.ensures.1 e in cc))
