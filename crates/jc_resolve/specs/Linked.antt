-- The answers to the references of a class, and the errors of its instructions.
use Rattle.std.specs.Prelude.{List}
use Rattle.jc_classes.specs.LinkErrors.{LinkError}
use Rattle.jc_classes.specs.Resolution.{Answer}
use Rattle.jc_resolve.specs.declared.linked.LinkError.{LinkError as LentError}

pub record Linked : Type 0 where
  pub answers : List Answer
  pub links : List LinkError

-- a borrowed error of an instruction, as data
abbrev pub link_lent : LentError → LinkError
link_lent link = record { method = link.method; place = link.place; error = link.error; class = link.class.now }
