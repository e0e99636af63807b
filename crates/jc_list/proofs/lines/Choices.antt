-- Which of two texts a line has.
use Rattle.std.proofs.Common.{◌≡◌, ◌∙◌, ◌++◌, sym, ℕ, true, false, [], ◌∷◌, codes, decimal, length}
use Rattle.std.proofs.lemmas.Bool.{eq-eqb, ne_eqb}
use Rattle.jc_file.specs.declared.access_flag.AccessFlag.{AccessFlag}
use Rattle.jc_file.specs.AccessFlags.{flag_name, has, mask_of}
use Rattle.jc_view.specs.ClassFile.{ClassFile, class_text_at}
use Rattle.jc_view.specs.declared.constant_pool.ConstantIndex.{ConstantIndex}
use Rattle.jc_view.specs.Attributes.{Code}
use Rattle.jc_code.specs.InsnReading.{end_of}
use Rattle.jc_list.specs.Texts.{flag_text, index_with_reference, shown_text}
use Rattle.jc_list.specs.AttributeLines.{catch_text, cut_line}
use Rattle.jc_list.specs.ClassLines.{super_text}

pub flag_shown : (bits : ℕ) (flag : AccessFlag) → has bits (mask_of flag) ≡ true → flag_text bits flag ≡ 32 ∷ flag_name flag
flag_shown bits flag set = rw set

pub flag_hidden : (bits : ℕ) (flag : AccessFlag) → has bits (mask_of flag) ≡ false → flag_text bits flag ≡ []
flag_hidden bits flag clear = rw clear

pub no_super : (c : ClassFile) → c.super_class.0 ≡ 0 → super_text c ≡ codes "none"
no_super c zero = rw zero

pub some_super : (c : ClassFile) → (c.super_class.0 ≡ 0 → ⊥) → super_text c ≡ shown_text (class_text_at c c.super_class)
some_super c some = rw (ne_eqb c.super_class.0 0 some)

pub catches_any : (c : ClassFile) (index : ConstantIndex) → index.0 ≡ 0 → catch_text c index ≡ codes "any"
catches_any c index zero = rw zero

pub catches_one : (c : ClassFile) (index : ConstantIndex) → (index.0 ≡ 0 → ⊥) → catch_text c index ≡ index_with_reference c index
catches_one c index some = rw (ne_eqb index.0 0 some)

pub ends_whole : (k : Code) (end size : ℕ) → end ≡ end_of k.code → size ≡ length k.code → end ≡ size → [] ≡ cut_line k
ends_whole k end size at of same = rw (eq-eqb (end_of k.code) (length k.code) (sym at ∙ same ∙ of))

pub ends_cut : (k : Code) (end size : ℕ) → end ≡ end_of k.code → size ≡ length k.code → (end ≡ size → ⊥) → codes "    cut " ++ decimal end ++ codes "\n" ≡ cut_line k
ends_cut k end size at of other = rw (ne_eqb (end_of k.code) (length k.code) (λ same. other (at ∙ same ∙ sym of)), at)
