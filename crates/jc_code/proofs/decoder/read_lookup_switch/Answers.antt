use Rattle.std.proofs.Common.{◌≡◌, ℕ, ◌≤◌, List, Some, None, length, refl, sym, ap, subst, ◌∙◌, arith}
use Rattle.std.proofs.lemmas.List.{length-drop, length-take-le}
use Rattle.jc_base.specs.Cursor.{Reading}
use Rattle.jc_view.specs.Reading.{after}
use Rattle.jc_view.proofs.reading.BigEndian.{after_front}
use Rattle.jc_code.specs.declared.insn.Insn.TheVariants as insns
use Rattle.jc_code.specs.Switches.{LookupSwitch}
use Rattle.jc_code.specs.inside.Decoding.{lookup_size, lookup_at}
use Rattle.jc_code.proofs.decoding.Behind.{not_left}
use Rattle.jc_code.proofs.decoding.SwitchSizes.{after_size, lookup_behind, lookup_part, lookup_value_behind, lookup_whole}
use Rattle.jc_code.proofs.decoder.read_lookup_switch.Goals as goal

pub returns-in_err-size : goal.returns-in_err-size
returns-in_err-size c =
    let ys = c.skip_pad.new.cursor.rest in
    let none : lookup_size ys ≡ None = ap lookup_size (sym c.rest.ensures) ∙ sym c.in_err-size.ensures in
    rw c.from_residual-in_err-size.ensures (lookup_behind c.args.place c.args.cursor.now.rest ys c.in_ok-skip_pad.ensures.0 ∙ ap (λ size. after_size size ys) none)

pub returns-in_err-bytes : goal.returns-in_err-bytes
returns-in_err-bytes c =
    let ys = c.skip_pad.new.cursor.rest in
    let size = c.in_ok-size.size in
    let told : lookup_size ys ≡ Some size = ap lookup_size (sym c.rest.ensures) ∙ sym c.in_ok-size.ensures in
    let none : after size ys ≡ None = not_left size ys (λ le. let there = c.in_err-bytes.ensures.some.1 le in cc) in
    rw c.from_residual-in_err-bytes.ensures (lookup_behind c.args.place c.args.cursor.now.rest ys c.in_ok-skip_pad.ensures.0 ∙ ap (λ o. after_size o ys) told ∙ none)

pub invariant_of-result : goal.invariant_of-result
invariant_of-result c =
    let ys = c.skip_pad.new.cursor.rest in
    let size = c.in_ok-size.size in
    let told : lookup_size ys ≡ Some size = ap lookup_size (sym c.rest.ensures) ∙ sym c.in_ok-size.ensures in
    let le : size ≤ length ys = c.in_ok-bytes.ensures.some.0 refl in
    let slice = c.in_ok-bytes.ensures.slice in (
      subst (λ (zs : List ℕ). lookup_size zs ≡ Some (length zs)) (sym slice) (lookup_whole size ys told le),
      omega (arith, c.requires, c.in_ok-skip_pad.ensures.1, ap length slice, length-take-le size ys le),
    )

pub returns : goal.returns
returns c =
    let at = c.args.place in
    let xs = c.args.cursor.now.rest in
    let ys = c.skip_pad.new.cursor.rest in
    let size = c.in_ok-size.size in
    let told : lookup_size ys ≡ Some size = ap lookup_size (sym c.rest.ensures) ∙ sym c.in_ok-size.ensures in
    let bytes = c.in_ok-bytes.ensures in
    let le : size ≤ length ys = bytes.some.0 refl in
    let behind = c.in_ok-skip_pad.ensures.0 in (
      lookup_behind at xs ys behind ∙ ap (λ o. after_size o ys) told ∙ after_front size ys le ∙ ap (λ (r : Reading). Some r.rest) (sym bytes.moved),
      omega (arith, c.in_ok-skip_pad.ensures.1, ap (λ (r : Reading). r.place) bytes.moved, ap (λ (r : Reading). length r.rest) bytes.moved, length-drop size ys),
      ap (λ (zs : List ℕ). insns.LookupSwitch (lookup_at at zs)) bytes.slice
          ∙ ap (λ (t : LookupSwitch). insns.LookupSwitch t) (lookup_part at size ys told le)
          ∙ sym (lookup_value_behind at xs ys behind),
    )
