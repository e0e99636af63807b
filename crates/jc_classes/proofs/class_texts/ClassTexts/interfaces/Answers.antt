use Rattle.std.proofs.Common.{◌≡◌, ap, subst}
use Rattle.std.specs.Prelude.{option_map}
use Rattle.std.specs.List.{flat_map}
use Rattle.std.specs.Option.{option_to_list}
use Rattle.jc_view.specs.declared.constant_pool.ConstantIndex.{ConstantIndex}
use Rattle.jc_view.specs.ClassFile.{class_text_at}
use Rattle.jc_classes.specs.FactsOf.{interfaces_in}
use Rattle.jc_classes.specs.inside.ConstantTexts.{texts_of}
use Rattle.jc_classes.specs.inside.FactsShown.{text_at}
use Rattle.jc_classes.proofs.texts.AskedTexts.{one_more_left}
use Rattle.jc_classes.proofs.class_texts.ClassTexts.interfaces.Goals as goal

pub loop-index-preserved : goal.loop-index-preserved
loop-index-preserved c =
    let class = c.args.self.now.class in
    let f = λ (index : ConstantIndex). option_to_list (class_text_at class index) in
    let index = c.in-Some.index in
    let is : option_map (text_at (texts_of class)) c.name_index.result ≡ class_text_at class index =
    subst (λ k. option_map (text_at (texts_of k)) c.name_index.result ≡ class_text_at k index) (ap (λ k. k.class) c.self.view_is) c.name_index.ensures in
    one_more_left text_at c.loop-index.names.items c.push_some.new.entries.items c.name_index.result c.in_ok-name.name (class_text_at class index) is c.in_ok-name.ensures c.in_ok-push_some.ensures
    (flat_map f c.loop-index.index-iterator) (flat_map f c.next.new.self) (interfaces_in class) c.loop-index.invariant (ap (flat_map f) c.in-Some.ensures.steps)
