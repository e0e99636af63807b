use Rattle.std.proofs.Common.{◌≡◌, ◌∙◌, ◌++◌, ◌+◌, ◌-◌, ◌≤◌, None, Some, ap, arith, length, replicate, slice_set, subst, sym}
use Rattle.std.specs.Prelude.{vec_len}
use Rattle.std.proofs.lemmas.List.{take_all}
use Rattle.jc_code.specs.inside.TextSizes.{AreKnown, slots_in}
use Rattle.jc_code.proofs.sizes.SizesAt.{none_known, one_known}
use Rattle.jc_code.proofs.known_slots.KnownSlots.note.Goals as goal
use Rattle.jc_code.proofs.known_slots.KnownSlots.note.Goals.{then-place-len+in_ok-resize, else-place-len}

pub invariant_of-self-2 : goal.invariant_of-self-2
invariant_of-self-2 c =
    let place = c.args.index.0 in
    let slots = c.args.slots in
    let now = c.if-place-len.self-inside in
    let class = c.self.inside.class.now in
    let old = c.self.inside.known in
    let is : slots ≡ slots_in class place = c.requires ∙ ap (λ k. slots_in k place) (sym c.self.view_is) in
    elim c.if-place-len.branch [
      | then-place-len+in_ok-resize w ↦
          let long : length old.items ≤ place + 1 = omega (arith, w.if-place-len.true, c.len.ensures, old.ok.0) in
          let grown : w.resize.new.self.items ≡ old.items ++ replicate (place + 1 - vec_len old) None =
          w.in_ok-resize.ensures.items ∙ ap (λ front. front ++ replicate (place + 1 - vec_len old) None) (take_all (place + 1) old.items long) in
          let right : AreKnown class w.resize.new.self.items = subst (AreKnown class) (sym grown) (none_known class old.items c.self.invariant _) in
          subst (λ inside. AreKnown inside.class.now (slice_set inside.known.items place (Some slots))) (sym w.self-inside-is) (one_known class w.resize.new.self.items right place slots is)
      | else-place-len w ↦
          subst (λ inside. AreKnown inside.class.now (slice_set inside.known.items place (Some slots))) (sym w.self-inside-is) (one_known class old.items c.self.invariant place slots is)
    ]
