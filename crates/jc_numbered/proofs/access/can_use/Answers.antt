use Rattle.std.proofs.Common.{sym, refl, ◌∙◌}
use Rattle.jc_classes.specs.Access.CanUse.{open_to_all}
use Rattle.jc_numbered.specs.inside.Indexed.{indexed_name}
use Rattle.jc_numbered.specs.inside.Shown.{indexed_of, found_at}
use Rattle.jc_numbered.specs.inside.Access.{named_at}
use Rattle.jc_numbered.proofs.lookups.CanUses.{from_inherited, from_package, by_own}
use Rattle.jc_numbered.proofs.access.can_use.Goals as goal

pub returns-then-is_open : goal.returns-then-is_open
returns-then-is_open c = λ m text e h. (λ t. open_to_all (sym (c.is_open.ensures text e) ∙ c.if-is_open.true), λ u. refl)

pub returns-then-is_inherited : goal.returns-then-is_inherited
returns-then-is_inherited c = let x = indexed_of c.args.classes.now in
    λ m text e h. (λ t. from_inherited m (indexed_name x c.args.class) (named_at x c.args.target text e) (found_at x c.args.hit) ((c.is_inherited.ensures m text e h).0 c.if-is_inherited.true), λ u. refl)

pub returns-then-is_in_package : goal.returns-then-is_in_package
returns-then-is_in_package c = let x = indexed_of c.args.classes.now in
    λ m text e h. (λ t. from_package m (indexed_name x c.args.class) (named_at x c.args.target text e) (found_at x c.args.hit) ((c.is_in_package.ensures).0 c.if-is_in_package.true), λ u. refl)

pub returns : goal.returns
returns c = let x = indexed_of c.args.classes.now in
    λ m text e h. by_own m (indexed_name x c.args.class) (named_at x c.args.target text e) (found_at x c.args.hit) c.is_open.result c.is_inherited.result c.is_in_package.result c.is_own.result
    (c.is_open.ensures text e) (c.is_inherited.ensures m text e h) (c.is_in_package.ensures) (c.is_own.ensures m h) c.if-is_open.false c.if-is_inherited.false c.if-is_in_package.false
