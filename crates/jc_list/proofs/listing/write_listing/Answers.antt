use Rattle.std.proofs.Common.{rules}
use Rattle.jc_list.proofs.listing.write_listing.Goals as goal

pub returns-clause-listing : goal.returns-clause-listing
returns-clause-listing c = search rules

pub returns-clause-failures : goal.returns-clause-failures
returns-clause-failures c = search rules
