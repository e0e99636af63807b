-- The answers and the ways of loading that calls return, as values of the definitions.
use Rattle.jc_classes.specs.Loading.{Loading as How}
use Rattle.jc_classes.specs.Loading.{Loading as how}
use Rattle.jc_resolve.specs.declared.hierarchy.Loading.{Loading}
use Rattle.jc_resolve.specs.declared.hierarchy.Loading.TheVariants as loading
use Rattle.jc_classes.specs.Lent.{member_lent}
use Rattle.jc_classes.specs.Resolution as defs
use Rattle.jc_classes.specs.Resolution.{Answer as answer}
use Rattle.jc_resolve.specs.declared.answers.Answer.{Answer}
use Rattle.jc_resolve.specs.declared.answers.Answer.TheVariants as made
use Rattle.jc_resolve.specs.declared.answers.AnswerKind.{AnswerKind}
use Rattle.jc_resolve.specs.declared.answers.AnswerKind.TheVariants as kinds

abbrev pub answer_of : Answer → defs.Answer
answer_of (made.ToClass n flags) = answer.ToClass n.now flags
answer_of (made.ToMember n x) = answer.ToMember n.now (member_lent x)
answer_of (made.Outside n) = answer.Outside n.now
answer_of made.NotLoaded = answer.NotLoaded
answer_of (made.Error e n) = answer.Error e n.now

-- the kind of an answer, without its texts
abbrev pub kind_of : defs.Answer → AnswerKind
kind_of (answer.ToClass n flags) = kinds.Found
kind_of (answer.ToMember n x) = kinds.Found
kind_of (answer.Outside n) = kinds.Outside
kind_of answer.NotLoaded = kinds.NotLoaded
kind_of (answer.Error e n) = kinds.Error e

abbrev pub loading_of : Loading → How
loading_of loading.Loaded = how.Loaded
loading_of loading.Outside = how.Outside
loading_of (loading.Fails e n) = how.Fails e n.items
