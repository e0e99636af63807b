use Rattle.std.proofs.Common.{◌∙◌, ap, arith, refl}
use Rattle.std.proofs.lemmas.List.{get_or_default}
use Rattle.jc_numbered.specs.inside.Shown.{indexed_of}
use Rattle.jc_resolve.specs.inside.Unimplemented.{stays_number}
use Rattle.jc_resolve.proofs.lookups.SearchLemmas.{plain_stay}
use Rattle.jc_resolve.proofs.unimplemented.all_stay.Goals as goal

pub returns-then-is_plain : goal.returns-then-is_plain
returns-then-is_plain c = (
  λ e. plain_stay (indexed_of c.args.classes.now) c.args.node c.args.methods.now c.args.numbers.now (c.is_plain.ensures c.if-is_plain.true) c.requires.numbers,
  λ h. refl,
)

pub returns : goal.returns
returns c = (
  λ e k d l.
      ap (stays_number (indexed_of c.args.classes.now) c.args.node c.args.methods.now) (get_or_default c.args.numbers.now k d 0 l)
      ∙ c.loop-number.invariant k (let q = c.loop-number-test.false in omega (arith, l, q)),
  λ h. refl,
)
