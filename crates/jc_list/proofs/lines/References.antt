-- What a constant refers to, where it is no class, field or method.
use Rattle.std.proofs.Common.{◌≡◌, [], refl}
use Rattle.jc_view.specs.declared.constant_pool.ConstantIndex.{ConstantIndex}
use Rattle.jc_view.specs.declared.constant_pool.Constant.{Constant}
use Rattle.jc_view.specs.declared.constant_pool.Constant.TheVariants as lent
use Rattle.jc_view.specs.Lent.{constant_of}
use Rattle.jc_view.specs.ClassFile.{ClassFile}
use Rattle.jc_list.specs.Texts.{reference_of}

pub refers_to_nothing : (c : ClassFile) (k : Constant) → ((x : ConstantIndex) → k ≡ lent.Class x → ⊥) → ((x y : ConstantIndex) → k ≡ lent.Fieldref x y → ⊥)
    → ((x y : ConstantIndex) → k ≡ lent.Methodref x y → ⊥) → ((x y : ConstantIndex) → k ≡ lent.InterfaceMethodref x y → ⊥) → reference_of c (constant_of k) ≡ []
refers_to_nothing c (lent.Class x) no_class no_field no_method no_interface_method = absurd (no_class x refl)
refers_to_nothing c (lent.Fieldref x y) no_class no_field no_method no_interface_method = absurd (no_field x y refl)
refers_to_nothing c (lent.Methodref x y) no_class no_field no_method no_interface_method = absurd (no_method x y refl)
refers_to_nothing c (lent.InterfaceMethodref x y) no_class no_field no_method no_interface_method = absurd (no_interface_method x y refl)
refers_to_nothing c (lent.Utf8 text) no_class no_field no_method no_interface_method = refl
refers_to_nothing c (lent.Integer bits) no_class no_field no_method no_interface_method = refl
refers_to_nothing c (lent.Float bits) no_class no_field no_method no_interface_method = refl
refers_to_nothing c (lent.Long bits) no_class no_field no_method no_interface_method = refl
refers_to_nothing c (lent.Double bits) no_class no_field no_method no_interface_method = refl
refers_to_nothing c (lent.String text) no_class no_field no_method no_interface_method = refl
refers_to_nothing c (lent.NameAndType x y) no_class no_field no_method no_interface_method = refl
refers_to_nothing c (lent.MethodHandle kind x) no_class no_field no_method no_interface_method = refl
refers_to_nothing c (lent.MethodType x) no_class no_field no_method no_interface_method = refl
refers_to_nothing c (lent.InvokeDynamic x y) no_class no_field no_method no_interface_method = refl
