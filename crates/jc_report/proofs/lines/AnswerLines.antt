-- The lines of answers, one reference on.
use Rattle.std.proofs.Common.{◌≡◌, ◌∙◌, ℕ, zero, suc, ◌+◌, List, [], ◌∷◌, ◌++◌, drop, Option, Some, None, refl, ap}
use Rattle.std.specs.Prelude.{Bool, true, false, ◌==◌, if◌then◌else◌, slice_get}
use Rattle.std.proofs.lemmas.List.{drop_more}
use Rattle.std.proofs.lemmas.Option.{get_or_from_slice_get, slice_get_within}
use Rattle.jc_classes.specs.Facts.{Reference}
use Rattle.jc_classes.specs.Facts.Named.{Class, Array}
use Rattle.jc_classes.specs.NamedTexts.{class_in_descriptor, named_by, without_dimensions}
use Rattle.jc_classes.specs.Worlds.{text_of}
use Rattle.jc_classes.specs.Resolution.{Answer}
use Rattle.jc_report.specs.PartText.{answer_line, answer_lines}

text_either : (b : Bool) (text : List ℕ) (innermost : Option (List ℕ)) → text_of (if b then Array text innermost else Class text) ≡ text
text_either true text innermost = refl
text_either false text innermost = refl

-- what a text names has that text
pub text_named : (text : List ℕ) → text_of (named_by text) ≡ text
text_named [] = refl
text_named (x ∷ xs) = text_either (x == 91) (x ∷ xs) (class_in_descriptor (without_dimensions xs))

pub lines_next : (refs : List Reference) (rest : List Answer) (n : ℕ) (r : Reference) (a : Answer) → slice_get refs n ≡ Some r → answer_lines (drop n refs) (a ∷ rest) ≡ answer_line r a ++ answer_lines (drop (n + 1) refs) rest
lines_next refs rest n r a e =
    ap (λ left. answer_lines left (a ∷ rest)) (drop_more refs n r (slice_get_within refs n r e) ∙ ap (λ first. first ∷ drop (n + 1) refs) (get_or_from_slice_get refs n r r e))

pub lines_past : (refs : List Reference) (answers : List Answer) (n : ℕ) → slice_get refs n ≡ None → answer_lines (drop n refs) answers ≡ []
lines_past [] answers zero e = refl
lines_past [] answers (suc n) e = refl
lines_past (r ∷ refs) answers zero e = absurd cc
lines_past (r ∷ refs) answers (suc n) e = lines_past refs answers n e

pub no_more : (refs : List Reference) → answer_lines refs [] ≡ []
no_more [] = refl
no_more (r ∷ rs) = refl
