use Rattle.std.proofs.Common.{◌≡◌, ◌∙◌, ◌+◌, [], ℕ, arith, map, sym, subst, take}
use Rattle.std.proofs.lemmas.Result.{IfOk-weaker}
use Rattle.std.specs.FinMap as fin
use Rattle.std.specs.declared.alloc.Global.{Global}
use Rattle.std.specs.declared.vec.Vec.{Vec}
use Rattle.jc_classes.specs.NameLists.{IsRisingOf}
use Rattle.jc_classes.specs.Names.{names_of}
use Rattle.jc_classes.specs.Numbers.{name_at}
use Rattle.jc_classes.specs.inside.Numbering.{IsNumbered}
use Rattle.jc_classes.proofs.numbering.NumberLemmas.{numbered_empty}
use Rattle.jc_classes.proofs.numbering.Rising.{numbered_next, rising_names}
use Rattle.jc_classes.proofs.numbers.rising.Goals as goal

pub loop-number-init : goal.loop-number-init
loop-number-init c = subst (λ p. IsNumbered p []) (sym c.new-places.ensures) numbered_empty

pub loop-number-preserved : goal.loop-number-preserved
loop-number-preserved c =
    let names = c.args.names.now in
    let i = c.loop-number.number in
    let name : name_at names i ≡ c.in_ok-name.name.items = sym c.text.ensures ∙ sym c.in_ok-name.ensures.items in
    subst (λ p. IsNumbered p (take (i + 1) names)) (sym c.in_ok-insert.ensures.ok)
    (numbered_next c.loop-number.places names i c.in_ok-name.name.items c.requires (omega (arith, c.loop-number-test.true, c.len-number-end.ensures)) name c.loop-number.invariant)

pub returns : goal.returns
returns c =
    let names = c.args.names.now in
    IfOk-weaker c.into_keys.result (λ keys. map (λ (k : Vec ℕ Global). k.items) keys.items ≡ fin.keys c.loop-number.places) (λ rising. IsRisingOf (names_of rising.items) names)
    (λ keys e. rising_names c.loop-number.places names (names_of keys.items) c.loop-number.number (omega (arith, c.loop-number-test.false, c.len-number-end.ensures)) c.loop-number.invariant e) c.into_keys.ensures
