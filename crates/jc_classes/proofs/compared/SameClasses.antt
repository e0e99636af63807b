-- Facts, members and references are the same where each of their fields is.
use Rattle.std.proofs.Common.{◌≡◌, ◌∙◌, ◌&&◌, arith, Bool, true, false, List, [], ◌∷◌, Option, Some, None, ℕ, ◌==◌, if◌then◌else◌, refl, sym, ap}
use Rattle.std.proofs.lemmas.Bool.{and_parts, and_from, eq-eqb, eqb-true, false≢true}
use Rattle.std.proofs.lemmas.Bool.Decides.{Decides-and, Decides-eqb, Decides-like}
use Rattle.std.proofs.lemmas.Slice.Eq.{bytes_eq-Decides}
use Rattle.std.proofs.lemmas.Grind.{common_steps}
use Rattle.std.specs.Bool.{Decides}
use denote.Enum.Bare.{same_true, true_same}
use Rattle.jc_code.specs.contracts.code_fault.CodeFaultPartialEq.TheImpl.{eq-value as code_fault_eq}
use Rattle.jc_code.specs.contracts.code_fault.CodeRule.{the_type as code_rule}
use Rattle.jc_code.specs.contracts.method_use.MethodUsePartialEq.TheImpl.{eq-value as use_eq}
use Rattle.jc_code.specs.declared.code_fault.CodeFault.{CodeFault}
use Rattle.jc_code.specs.declared.method_use.MethodUse.{MethodUse}
use Rattle.jc_file.specs.contracts.fault.FaultPartialEq.TheImpl.{eq-value as fault_eq}
use Rattle.jc_file.specs.contracts.fault.FormatRule.{the_type as format_rule}
use Rattle.jc_file.specs.declared.fault.Fault.{Fault}
use Rattle.jc_classes.specs.Facts.{Facts, Member}
use Rattle.jc_classes.specs.Facts.Named.{Class, Array}
use Rattle.jc_classes.specs.Lent.{reference_lent}
use Rattle.jc_classes.specs.NamedTexts.{class_in_descriptor, named_by, without_dimensions}
use Rattle.jc_classes.specs.Names.{Name, same_name}
use Rattle.jc_classes.specs.Worlds.{text_of}
use Rattle.jc_classes.specs.contracts.used.UserPartialEq.TheImpl.{eq-value as user_eq}
use Rattle.jc_classes.specs.declared.reference.Reference.{Reference as LentReference}
use Rattle.jc_classes.specs.declared.used.User.{User}
use Rattle.jc_classes.specs.inside.SameFacts.{IsSameUse, same_head, same_member, same_option, same_texts}
use Rattle.jc_classes.proofs.worlds.NameTests.{decides_same}

-- ---- the rest of two tests

-- the first holds
pub then_second : {P Q : Type 0} (a b : Bool) → Decides a P → a ≡ true → Decides b Q → Decides b (P × Q)
then_second a b d t e = (λ s. (d.0 t, e.0 s), λ both. e.1 both.1)

-- the first fails
pub not_first : {P Q : Type 0} (a : Bool) → Decides a P → a ≡ false → Decides a (P × Q)
not_first a d t = (λ s. absurd (false≢true (sym t ∙ s)), λ both. d.1 both.0)

-- a field differs
pub refused : {P Q : Type 0} (a : Bool) → Decides a P → a ≡ false → (Q → P) → Decides false Q
refused a d t field = (λ e. absurd (false≢true e), λ q. absurd (false≢true (sym t ∙ d.1 (field q))))

-- ---- members

pub decides_member : (a b : Member) → Decides (same_member a b) (a ≡ b)
decides_member a b =
    Decides-like (same_member a b)
    (λ p. λ i. record { name = p.0.0 i; descriptor = p.0.1 i; flags = p.1 i })
    (λ e. ((ap (λ (x : Member). x.name) e, ap (λ (x : Member). x.descriptor) e), ap (λ (x : Member). x.flags) e))
    (Decides-and _ _ (Decides-and _ _ (decides_same a.name b.name) (decides_same a.descriptor b.descriptor)) (Decides-eqb a.flags b.flags))

-- ---- references

text_named : (text : List ℕ) → text_of (named_by text) ≡ text
text_named [] = refl
text_named (x ∷ xs) = by (x == 91)
  where
    by : (b : Bool) → text_of (if b then Array (x ∷ xs) (class_in_descriptor (without_dimensions xs)) else Class (x ∷ xs)) ≡ x ∷ xs
    by true = refl
    by false = refl

-- of one kind, they are the same where their texts are
pub decides_reference : (r s : LentReference) → r.kind ≡ s.kind → Decides (same_texts r s) (reference_lent r ≡ reference_lent s)
decides_reference r s kind =
    Decides-like (same_texts r s)
    (λ p. λ i. record {
      index = p.0.0.0 i;
      kind = kind i;
      named = named_by (p.0.0.1 i);
      key = record { name = p.0.1 i; descriptor = p.1 i };
    })
    (λ e. (
      ((ap (λ x. x.index) e, sym (text_named r.class.now) ∙ ap (λ x. text_of x.named) e ∙ text_named s.class.now), ap (λ x. x.key.name) e),
      ap (λ x. x.key.descriptor) e,
    ))
    (Decides-and _ _
    (Decides-and _ _ (Decides-and _ _ (Decides-eqb r.index s.index) (decides_same r.class.now s.class.now)) (decides_same r.key.name.now s.key.name.now))
    (decides_same r.key.descriptor.now s.key.descriptor.now))

-- ---- the path, the name, the flags and the superclass

decides_option : (a b : Option Name) → Decides (same_option a b) (a ≡ b)
decides_option None None = (λ t. refl, λ e. refl)
decides_option (Some a) None = (λ t. absurd (false≢true t), λ e. absurd cc)
decides_option None (Some b) = (λ t. absurd (false≢true t), λ e. absurd cc)
decides_option (Some a) (Some b) = Decides-like (same_name a b) (λ e. ap (λ (x : Name). Some x) e) (λ e. cc) (decides_same a b)

abbrev pub IsSameHead : (f g : Facts) → Type 0
IsSameHead f g = (((f.path ≡ g.path) × (f.name ≡ g.name)) × (f.flags ≡ g.flags)) × (f.superclass ≡ g.superclass)

pub decides_head : (f g : Facts) → Decides (same_head f g) (IsSameHead f g)
decides_head f g =
    Decides-and _ _ (Decides-and _ _ (Decides-and _ _ (bytes_eq-Decides f.path g.path) (decides_same f.name g.name)) (Decides-eqb f.flags g.flags)) (decides_option f.superclass g.superclass)

pub head_of : (f g : Facts) → f ≡ g → IsSameHead f g
head_of f g e = (((ap (λ (x : Facts). x.path) e, ap (λ (x : Facts). x.name) e), ap (λ (x : Facts). x.flags) e), ap (λ (x : Facts). x.superclass) e)

-- ---- uses and faults

pub use_decides : (a b : MethodUse) → Decides (use_eq.it a b) (a ≡ b)
use_decides a b = (
  λ t. grind (arith, common_steps, t),
  λ e. grind (arith, common_steps, e),
)

pub user_decides : (a b : User) → Decides (user_eq.it a b) (a ≡ b)
user_decides a b = (
  λ t. grind (arith, common_steps, t),
  λ e. grind (arith, common_steps, e),
)

pub fault_decides : (a b : Fault) → Decides (fault_eq.it a b) (a ≡ b)
fault_decides a b = (
  λ t.
      let both = and_parts _ _ t in
      let rule = same_true format_rule tt a.rule b.rule both.0 in
      let place = eqb-true a.place b.place both.1 in
      λ i. record { rule = rule i; place = place i },
  λ e. and_from _ _ (true_same format_rule a.rule b.rule (ap (λ (x : Fault). x.rule) e)) (eq-eqb a.place b.place (ap (λ (x : Fault). x.place) e)),
)

code_fault_decides : (a b : CodeFault) → Decides (code_fault_eq.it a b) (a ≡ b)
code_fault_decides a b = (
  λ t.
      let both = and_parts _ _ t in
      let rule = same_true code_rule tt a.rule b.rule both.0 in
      let place = eqb-true a.place b.place both.1 in
      λ i. record { rule = rule i; place = place i },
  λ e. and_from _ _ (true_same code_rule a.rule b.rule (ap (λ (x : CodeFault). x.rule) e)) (eq-eqb a.place b.place (ap (λ (x : CodeFault). x.place) e)),
)

pub numbered_decides : (p q : ℕ × CodeFault) → Decides (p.0 == q.0 && code_fault_eq.it p.1 q.1) (p ≡ q)
numbered_decides p q =
    Decides-like (p.0 == q.0 && code_fault_eq.it p.1 q.1) (λ both. λ i. (both.0 i, both.1 i)) (λ e. (ap (λ (x : ℕ × CodeFault). x.0) e, ap (λ (x : ℕ × CodeFault). x.1) e))
    (Decides-and _ _ (Decides-eqb p.0 q.0) (code_fault_decides p.1 q.1))

-- ---- facts

pub same_facts : (f g : Facts) → IsSameHead f g → f.interfaces ≡ g.interfaces → f.fields ≡ g.fields → f.methods ≡ g.methods → f.references ≡ g.references
    → IsSameUse f g → f.format_faults ≡ g.format_faults → f.code_faults ≡ g.code_faults → f ≡ g
same_facts f g head interfaces fields methods references uses format code =
    λ i. record {
      path = head.0.0.0 i;
      name = head.0.0.1 i;
      flags = head.0.1 i;
      superclass = head.1 i;
      interfaces = interfaces i;
      fields = fields i;
      methods = methods i;
      references = references i;
      uses = uses.0 i;
      users = uses.1 i;
      format_faults = format i;
      code_faults = code i;
    }
