use Rattle.jc_view.proofs.refusals.ClassNames.{Decided, named_is, is_named, refused_is, is_refused, layout_read, refusal_read}
use Rattle.jc_view.proofs.laws.outcomes_are_exact.Goals as goal

decided : (c : goal.After-texts_are_decided) → Decided
decided c = c.texts_are_decided.ensures.class

pub returns : goal.returns
returns c = record {
  read = λ b class name fits layout is. layout_read (decided c) b class name fits layout is;
  unread = λ b e fits refusal. refusal_read (decided c) b e fits refusal;
  named = λ b name fits. (named_is (decided c) b name fits, is_named (decided c) b name fits);
  refused = λ b e fits. (refused_is (decided c) b e fits, is_refused (decided c) b e fits);
}
