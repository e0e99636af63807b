use Rattle.std.proofs.Common.{ℕ}
use Rattle.std.specs.List.{Contains}
use Rattle.jc_file.specs.declared.fault.FormatRule.{FormatRule}
use Rattle.jc_file.specs.declared.fault.FormatRule.TheVariants as rules
use Rattle.jc_view.specs.ClassFile.{ClassFile, layout}
use Rattle.jc_view.specs.Outcome.{AreBytes}
use Rattle.jc_file.specs.Faults.{places}
use Rattle.jc_file.specs.FormatRules.{breaks_f1, breaks_f2, breaks_f3, breaks_f4, breaks_f5, breaks_f6, breaks_f7, breaks_f8, breaks_f9, breaks_f10, breaks_f11, breaks_f28, breaks_f29, breaks_f30}
use Rattle.jc_file.specs.Violations.{BreaksF1, BreaksF2, BreaksF3, BreaksF4, BreaksF5, BreaksF6, BreaksF7, BreaksF8, BreaksF9, BreaksF10, BreaksF11, BreaksF28, BreaksF29, BreaksF30, Violates}
use Rattle.jc_file.proofs.violations.Decisions.{numbers_decided, only_decided}
use Rattle.jc_file.proofs.violations.Lookups.{TextsDecided}
use Rattle.jc_file.proofs.violations.ByteParts.{class_have, method_have}
use Rattle.jc_file.proofs.violations.Constants.{constants_decided, f1_decided, f2_decided, f3_decided, f4_decided, f5_decided, f6_decided, f7_decided, f8_decided, f9_decided, f10_decided, f11_decided}
use Rattle.jc_file.proofs.violations.Classes.{f12_decided, f13_decided, f14_decided, f27_decided}
use Rattle.jc_file.proofs.violations.Members.{BytesRead, repeated_decided, f15_decided, f16_decided, f17_decided, f19_decided, f20_decided, f21_decided, f23_decided, f24_decided, f25_decided, f26_decided}
use Rattle.jc_file.proofs.violations.Attributes.{attributes_decided, f28_decided, f29_decided, f30_decided}
use Rattle.jc_file.proofs.fault_laws.faults_are_violations.Goals as goal

texts : goal.After-attributes_are_read → TextsDecided
texts c = record {
  units = c.texts_are_decided.ensures.units;
  unqualified = c.texts_are_decided.ensures.unqualified;
  method_name = c.texts_are_decided.ensures.method;
  class = c.texts_are_decided.ensures.class;
  field = c.descriptors_are_decided.ensures.field;
  method = c.descriptors_are_decided.ensures.method;
}

reads_of : goal.After-attributes_are_read → BytesRead
reads_of c = record {
  code = λ b fits k. c.attributes_are_read.ensures.code b k fits;
  exceptions = λ b fits names. c.attributes_are_read.ensures.exceptions b names fits;
  bootstraps = λ b fits methods. c.attributes_are_read.ensures.bootstraps b methods fits;
}

by_rule : TextsDecided → BytesRead → (c : ClassFile) (rule : FormatRule) (k : ℕ) → AreBytes (layout c)
    → (Contains (places c rule) k → Violates rule c k) × (Violates rule c k → Contains (places c rule) k)
by_rule t reads c rules.F1 k bytes = constants_decided c (breaks_f1 c) (BreaksF1 c) (f1_decided c) k
by_rule t reads c rules.F2 k bytes = constants_decided c (breaks_f2 c) (BreaksF2 c) (f2_decided t c) k
by_rule t reads c rules.F3 k bytes = constants_decided c (breaks_f3 c) (BreaksF3 c) (f3_decided t c) k
by_rule t reads c rules.F4 k bytes = constants_decided c (breaks_f4 c) (BreaksF4 c) (f4_decided t c) k
by_rule t reads c rules.F5 k bytes = constants_decided c (breaks_f5 c) (BreaksF5 c) (f5_decided t c) k
by_rule t reads c rules.F6 k bytes = constants_decided c (breaks_f6 c) (BreaksF6 c) (f6_decided t c) k
by_rule t reads c rules.F7 k bytes = constants_decided c (breaks_f7 c) (BreaksF7 c) (f7_decided t c) k
by_rule t reads c rules.F8 k bytes = constants_decided c (breaks_f8 c) (BreaksF8 c) (f8_decided c) k
by_rule t reads c rules.F9 k bytes = constants_decided c (breaks_f9 c) (BreaksF9 c) (f9_decided c) k
by_rule t reads c rules.F10 k bytes = constants_decided c (breaks_f10 c) (BreaksF10 c) (f10_decided t c) k
by_rule t reads c rules.F11 k bytes = constants_decided c (breaks_f11 c) (BreaksF11 c) (f11_decided c) k
by_rule t reads c rules.F12 k bytes = only_decided (f12_decided c) k
by_rule t reads c rules.F13 k bytes = only_decided (f13_decided t c) k
by_rule t reads c rules.F14 k bytes = numbers_decided c.interfaces (λ index there. f14_decided t c index) k
by_rule t reads c rules.F15 k bytes = numbers_decided c.fields (λ f there. f15_decided t c f) k
by_rule t reads c rules.F16 k bytes = numbers_decided c.fields (λ f there. f16_decided t c f) k
by_rule t reads c rules.F17 k bytes = numbers_decided c.fields (λ f there. f17_decided c f) k
by_rule t reads c rules.F18 k bytes = repeated_decided c c.fields k
by_rule t reads c rules.F19 k bytes = numbers_decided c.methods (λ m there. f19_decided t c m) k
by_rule t reads c rules.F20 k bytes = numbers_decided c.methods (λ m there. f20_decided t c m) k
by_rule t reads c rules.F21 k bytes = numbers_decided c.methods (λ m there. f21_decided c m) k
by_rule t reads c rules.F22 k bytes = repeated_decided c c.methods k
by_rule t reads c rules.F23 k bytes = numbers_decided c.methods (λ m there. f23_decided c m) k
by_rule t reads c rules.F24 k bytes = numbers_decided c.methods (λ m there. f24_decided reads c m (method_have c bytes m there)) k
by_rule t reads c rules.F25 k bytes = numbers_decided c.fields (λ f there. f25_decided t c f) k
by_rule t reads c rules.F26 k bytes = numbers_decided c.methods (λ m there. f26_decided reads c m (method_have c bytes m there)) k
by_rule t reads c rules.F27 k bytes = only_decided (f27_decided reads c (class_have c bytes)) k
by_rule t reads c rules.F28 k bytes = attributes_decided reads c bytes (breaks_f28 c) (BreaksF28 c) (f28_decided c) k
by_rule t reads c rules.F29 k bytes = attributes_decided reads c bytes (breaks_f29 c) (BreaksF29 c) (f29_decided c) k
by_rule t reads c rules.F30 k bytes = attributes_decided reads c bytes (breaks_f30 c) (BreaksF30 c) (f30_decided c) k

pub returns : goal.returns
returns c = by_rule (texts c) (reads_of c)
