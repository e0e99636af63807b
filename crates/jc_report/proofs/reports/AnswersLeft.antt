-- The answers that are left, one on.
use Rattle.std.proofs.Common.{◌≡◌, ◌∙◌, ◌∷◌, ◌+◌, ℕ, List, Option, Some, None, ap, drop, refl}
use Rattle.std.specs.List.{slice_get}
use Rattle.std.specs.Option.{option_map}
use Rattle.std.proofs.lemmas.List.{drop_more}
use Rattle.std.proofs.lemmas.Option.{get_or_from_slice_get, same_Some, slice_get_within}
use Rattle.jc_classes.specs.Resolution.{Answer}
use Rattle.jc_resolve.specs.Answers.{answer_of, kind_of}
use Rattle.jc_resolve.specs.declared.answers.Answer.{Answer as Made}
use Rattle.jc_resolve.specs.declared.answers.AnswerKind.{AnswerKind}

pub next_answer : (answers : List Answer) (n : ℕ) (a : Made) → slice_get answers n ≡ Some (answer_of a) → drop n answers ≡ answer_of a ∷ drop (n + 1) answers
next_answer answers n a e =
    drop_more answers n (answer_of a) (slice_get_within answers n (answer_of a) e)
    ∙ ap (λ x. x ∷ drop (n + 1) answers) (get_or_from_slice_get answers n (answer_of a) (answer_of a) e)

-- the first that is left is of this kind
pub record NextOfKind (answers : List Answer) (n : ℕ) (kind : AnswerKind) : Type 0 where
  pub answer : Answer
  pub kind_is : kind_of answer ≡ kind
  pub left : drop n answers ≡ answer ∷ drop (n + 1) answers

kind_by : (answers : List Answer) (n : ℕ) (kind : AnswerKind) (o : Option Answer) → slice_get answers n ≡ o → option_map kind_of o ≡ Some kind → NextOfKind answers n kind
kind_by answers n kind None at e = absurd cc
kind_by answers n kind (Some a) at e = record {
  answer = a;
  kind_is = same_Some (kind_of a) kind e;
  left = drop_more answers n a (slice_get_within answers n a at) ∙ ap (λ x. x ∷ drop (n + 1) answers) (get_or_from_slice_get answers n a a at);
}

pub next_of_kind : (answers : List Answer) (n : ℕ) (kind : AnswerKind) → option_map kind_of (slice_get answers n) ≡ Some kind → NextOfKind answers n kind
next_of_kind answers n kind e = kind_by answers n kind (slice_get answers n) refl e
