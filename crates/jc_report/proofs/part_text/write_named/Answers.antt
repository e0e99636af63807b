use Rattle.std.proofs.Common.{◌≡◌, ◌⊎◌, ap, inl, inr, refl, sym}
use Rattle.jc_text.proofs.Sending.{sends_equal}
use Rattle.jc_classes.specs.Facts.{Key}
use Rattle.jc_classes.specs.Lent.{key_lent}
use Rattle.jc_classes.specs.Names.{Name}
use Rattle.jc_classes.specs.declared.reference.ReferenceKind.{ReferenceKind}
use Rattle.jc_classes.specs.declared.reference.ReferenceKind.TheVariants as kinds
use Rattle.jc_report.specs.PartText.{member_text, named_text}
use Rattle.jc_report.proofs.part_text.write_named.Goals as goal

member_named : (kind : ReferenceKind) (class : Name) (key : Key) → (kind ≡ kinds.Field) ⊎ ((kind ≡ kinds.Method) ⊎ (kind ≡ kinds.InterfaceMethod)) → member_text class key ≡ named_text kind class key
member_named kind class key (inl e) = ap (λ k. named_text k class key) (sym e)
member_named kind class key (inr (inl e)) = ap (λ k. named_text k class key) (sym e)
member_named kind class key (inr (inr e)) = ap (λ k. named_text k class key) (sym e)

pub returns-in-Class : goal.returns-in-Class
returns-in-Class g c = sends_equal (ap (λ k. named_text k c.args.class.now (key_lent c.args.key)) (sym c.in-Class.is)) c.shown.ensures

pub returns-in-Field : goal.returns-in-Field
returns-in-Field g c = sends_equal (member_named c.args.kind c.args.class.now (key_lent c.args.key) c.in-Field.is) (c.write_member.ensures (key_lent c.args.key) refl refl)
