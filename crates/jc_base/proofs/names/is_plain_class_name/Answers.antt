use Rattle.std.proofs.Common.{◌∙◌, ◌<◌, ◌+◌, ◌&&◌, ◌==◌, Bool, not, ap, sym, subst, drop, get_or}
use Rattle.std.proofs.Math.ListN.{drop_of_length-le}
use Rattle.jc_base.specs.inside.PlainNames.{are_plain_parts}
use Rattle.jc_base.proofs.texts.PlainNames.{ends_within, parts_left, place_step, place_within}
use Rattle.jc_base.proofs.names.is_plain_class_name.Goals as goal

pub loop-byte-preserved : goal.loop-byte-preserved
loop-byte-preserved c =
    let text = c.args.text.now in
    let i = c.loop-byte.byte-index in
    let byte = get_or text i 0 in
    let place = c.loop-byte.place in
    let left = λ (begins : Bool). are_plain_parts begins (drop (i + 1) text) in
    record {
      place = subst (λ n. n < 3) (sym c.place_behind-place.ensures) (place_within place byte);
      left = ap (λ n. not (n == 2) && left (n == 0)) c.place_behind-place.ensures
          ∙ place_step place byte left c.loop-byte.invariant.place
          ∙ ap (λ b. not (place == 2) && b) (sym (parts_left text i 0 (place == 0) c.loop-byte-test.true))
          ∙ c.loop-byte.invariant.left;
    }

pub returns : goal.returns
returns c =
    let place = c.loop-byte.place in
    ends_within place c.loop-byte.invariant.place
    ∙ ap (λ b. not (place == 2) && are_plain_parts (place == 0) b) (sym (drop_of_length-le c.args.text.now c.loop-byte-test.false))
    ∙ c.loop-byte.invariant.left
