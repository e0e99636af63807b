-- What the tests of the class decide.
use Rattle.std.proofs.Common.{◌≡◌, length, refl, sym, subst, codes}
use Rattle.std.specs.Bool.{Decides}
use Rattle.std.specs.List.{Contains, list_any}
use Rattle.std.proofs.lemmas.Bool.Decides.{Decides-at}
use Rattle.jc_view.specs.declared.constant_pool.ConstantIndex.{ConstantIndex}
use Rattle.jc_view.specs.declared.constant_pool.ConstantKind.{ConstantKind}
use Rattle.jc_view.specs.declared.constant_pool.ConstantKind.TheVariants as kinds
use Rattle.jc_view.specs.declared.attribute_kind.AttributeKind.TheVariants as attributes
use Rattle.jc_view.specs.declared.attribute_kind.Holder.TheVariants as holders
use Rattle.jc_view.specs.ConstantPool as pool
use Rattle.jc_view.specs.ConstantPool.{Constant, kind_of}
use Rattle.jc_view.specs.ClassFile.{ClassFile, constant_at}
use Rattle.jc_file.specs.AccessFlags as flags
use Rattle.jc_view.specs.Lookups.{is_kind}
use Rattle.jc_view.specs.Attributes.{is_recognised, Bootstrap, AreBootstrapsOf, bootstrap_attributes}
use Rattle.jc_view.specs.AttributeReading.{bootstraps_in}
use Rattle.jc_file.proofs.violations.Decisions.{like, neg, both, either, one_of_three, one_of_four, chosen, equal, at_most, has, every, one_of, one_where, kept, none_fits}
use Rattle.jc_file.proofs.violations.Lookups.{TextsDecided, kind_decided, entry_decided, same_text, has_class_text, no_class_text, is_set}
use Rattle.jc_file.specs.FormatRules.{breaks_f12, names_object, breaks_f13, breaks_f14, is_argument, is_bootstrap, breaks_f27}
use Rattle.jc_file.specs.Violations.{HasClassText, IsInterface, IsObject, BreaksF12, BreaksF13, BreaksF14, argument_kinds, IsBootstrap, BreaksF27}
use Rattle.jc_file.proofs.violations.Members.{BytesRead, HaveBytes}

interface_decided : (c : ClassFile) → Decides (flags.has c.flags flags.interface) (IsInterface c)
interface_decided c = is_set c.flags flags.interface

pub f12_decided : (c : ClassFile) → Decides (breaks_f12 c) (BreaksF12 c)
f12_decided c = one_of_three
    (both (interface_decided c) (one_of_four (neg (is_set c.flags flags.abstract)) (is_set c.flags flags.final) (is_set c.flags flags.super) (is_set c.flags flags.enum)))
    (both (is_set c.flags flags.annotation) (neg (interface_decided c)))
    (both (is_set c.flags flags.final) (is_set c.flags flags.abstract))

object_decided : (c : ClassFile) (index : ConstantIndex) → Decides (names_object c index) (HasClassText c IsObject index)
object_decided c index = has_class_text c (λ name. same_text name (codes "java/lang/Object")) index

pub f13_decided : TextsDecided → (c : ClassFile) → Decides (breaks_f13 c) (BreaksF13 c)
f13_decided tests c = chosen
    (equal c.super_class.0 0)
    (either (neg (object_decided c c.this_class)) (interface_decided c))
    (one_of_three (object_decided c c.this_class) (no_class_text c tests.class c.super_class) (both (interface_decided c) (neg (object_decided c c.super_class))))

pub f14_decided : TextsDecided → (c : ClassFile) (index : ConstantIndex) → Decides (breaks_f14 c index) (BreaksF14 c index)
f14_decided tests c index = no_class_text c tests.class index

-- ---- bootstrap methods

listed : (entry : Constant) → is_argument entry ≡ list_any (λ kind. is_kind kind entry) argument_kinds
listed (pool.Utf8 text) = refl
listed constant = refl

kinds_listed : (entry : Constant) → (kind : ConstantKind) × Contains argument_kinds kind × (kind_of entry ≡ kind) → Contains argument_kinds (kind_of entry)
kinds_listed entry h = subst (Contains argument_kinds) (sym h.2) h.1

argument_decided : (entry : Constant) → Decides (is_argument entry) (Contains argument_kinds (kind_of entry))
argument_decided entry =
    Decides-at (is_argument entry) (list_any (λ kind. is_kind kind entry) argument_kinds) (listed entry)
    (like (kinds_listed entry) (λ there. (kind_of entry, there, refl)) (one_of (λ kind. kind_decided kind entry) argument_kinds))

bootstrap_decided : (c : ClassFile) (m : Bootstrap) → Decides (is_bootstrap c m) (IsBootstrap c m)
bootstrap_decided c m = both (entry_decided c kinds.MethodHandle m.method) (every (λ index. has argument_decided (constant_at c index)) m.arguments)

pub f27_decided : BytesRead → (c : ClassFile) → HaveBytes c.attributes → Decides (breaks_f27 c) (BreaksF27 c)
f27_decided reads c bytes = either (at_most 2 (length (bootstrap_attributes c))) (one_where (bootstrap_attributes c) (λ a there.
    none_fits (bootstraps_in a.bytes) (AreBootstrapsOf a.bytes) (reads.bootstraps a.bytes (bytes a (kept (is_recognised c attributes.BootstrapMethods holders.Class) c.attributes a there).0))
    (every (bootstrap_decided c))))
