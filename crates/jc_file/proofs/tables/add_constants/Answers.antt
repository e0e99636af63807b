use Rattle.std.proofs.Common.{◌∙◌, false, ap}
use Rattle.std.specs.Option.{option_map_or}
use Rattle.jc_view.specs.ClassFile.{constant_at}
use Rattle.jc_file.specs.inside.Broken.{places_in}
use Rattle.jc_file.specs.inside.RuleSets.{has}
use Rattle.jc_file.specs.inside.RuleTables.{breaks_in, constant_tests}
use Rattle.jc_file.proofs.sets.PlacesAdded.{number_more}
use Rattle.jc_file.proofs.tables.add_constants.Goals as goal

pub loop-index-preserved : goal.loop-index-preserved
loop-index-preserved c =
    let so_far = c.loop-index.invariant in
    record {
      same = c.rules_at-rules.ensures.same ∙ so_far.same;
      places = λ rule.
          number_more (λ k. option_map_or (λ x. breaks_in (constant_tests c.args.texts.now x) rule) (constant_at c.args.texts.now (record { 0 = k })) false) c.loop-index.index (has c.rules_at-rules.result rule)
          (places_in rule c.args.broken.now.items) (places_in rule c.loop-index.broken.items) _ c.loop-index.auto.index
          (c.rules_at-rules.ensures.rules rule ∙ ap (λ t. option_map_or (λ x. breaks_in (constant_tests t x) rule) (constant_at t (record { 0 = c.loop-index.index })) false) so_far.same)
          (c.in_ok-add_broken.ensures rule) (so_far.places rule);
    }
