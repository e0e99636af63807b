-- Borrowed commands, as data.
use Rattle.jc_input.specs.declared.command.Command.{Command as LentCommand}
use Rattle.jc_input.specs.declared.command.Command.TheVariants as lent
use Rattle.jc_input.specs.Lines.{Command, Add, Replace, Remove, AddPrefix, DropPrefix, Report, Part, Listing, Dependants, End, Bad}

-- the command that a borrowed one shows, with its path, prefix or name as bytes
abbrev pub command_lent : LentCommand → Command
command_lent (lent.Add path) = Add path.now
command_lent (lent.Replace path) = Replace path.now
command_lent (lent.Remove path) = Remove path.now
command_lent (lent.AddPrefix prefix) = AddPrefix prefix.now
command_lent (lent.DropPrefix prefix) = DropPrefix prefix.now
command_lent lent.Report = Report
command_lent (lent.Part name) = Part name.now
command_lent (lent.List name) = Listing name.now
command_lent (lent.Dependants name) = Dependants name.now
command_lent lent.End = End
command_lent lent.Bad = Bad
