use Rattle.std.proofs.Common.{◌∙◌, ap, sym, codes}
use Rattle.std.specs.Option.{option_copied, option_map_or}
use Rattle.jc_text.proofs.Sending.{◌⟫◌, sends_equal, sends_nothing}
use Rattle.jc_view.specs.Lookups.{utf8_at}
use Rattle.jc_list.specs.Texts.{index_text, shown_text}
use Rattle.jc_list.specs.AttributeLines.{signature_text, signatures_of}
use Rattle.jc_list.proofs.fronts.OneBehindAnother.{lists_behind, lists_equal}
use Rattle.jc_list.proofs.told.AttributeTexts.{constant_told, nothing_told, signature_told, source_told}
use Rattle.jc_list.proofs.attributes.write_entry.Goals as goal

pub returns-then-is : goal.returns-then-is
returns-then-is g c =
    let a = c.args.attribute.now in
    let text = ap shown_text (c.utf8-2.ensures ∙ ap (λ k. utf8_at k c.args.index) c.class.ensures ∙ ap (utf8_at a.class) c.requires) in
    sends_equal (source_told a.class a.attribute (sym c.is.ensures ∙ c.if-is.true)) (c.text.ensures ⟫ sends_equal text c.write_text.ensures)

pub returns-then-is-2 : goal.returns-then-is-2
returns-then-is-2 g c =
    let a = c.args.attribute.now in
    let kind = ap (λ k. option_map_or (signature_text k) (option_copied c.utf8-then-is-2.result) (codes "?")) (c.signatures_of-kind.ensures ∙ ap signatures_of c.holder.ensures) in
    let text = ap (λ t. option_map_or (signature_text (signatures_of a.attribute.holder)) t (codes "?")) (c.utf8-then-is-2.ensures ∙ ap (λ k. utf8_at k c.args.index) c.class-then-is-2.ensures ∙ ap (utf8_at a.class) c.requires) in
    lists_equal _ _ _ _ c.write_signature.result _ _ (signature_told a.class a.attribute (sym c.is.ensures ∙ c.if-is.false) (sym c.is-else-is.ensures ∙ c.if-is-2.true))
    (lists_behind _ c.write_signature.result _ _ c.text-then-is-2.ensures (lists_equal _ _ _ _ c.write_signature.result _ _ (kind ∙ text) c.write_signature.ensures))

pub returns-then-is-3 : goal.returns-then-is-3
returns-then-is-3 g c =
    let a = c.args.attribute.now in
    sends_equal (constant_told a.class a.attribute (sym c.is.ensures ∙ c.if-is.false) (sym c.is-else-is.ensures ∙ c.if-is-2.false) (sym c.is-else-is-2.ensures ∙ c.if-is-3.true))
    (c.text-then-is-3.ensures ⟫ sends_equal (ap index_text c.requires) c.write_index.ensures)

pub returns-else-is-3 : goal.returns-else-is-3
returns-else-is-3 g c =
    let a = c.args.attribute.now in
    sends_equal (nothing_told a.class a.attribute (sym c.is.ensures ∙ c.if-is.false) (sym c.is-else-is.ensures ∙ c.if-is-2.false) (sym c.is-else-is-2.ensures ∙ c.if-is-3.false)) (sends_nothing _ _ _)
