use Rattle.jc_file.proofs.texts.Known.nothing.Goals as goal

pub returns : goal.returns
returns c = λ class index. record {
  is_class = λ a e. absurd cc;
  is_unqualified = λ a e. absurd cc;
  is_method_name = λ a e. absurd cc;
  descriptor = λ a e. absurd cc;
}
