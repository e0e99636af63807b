-- The runtime whose files a source reads.
use Rattle.jc_input.specs.declared.source.FileSource.{FileSource}

abbrev pub runtime_of : {R : Type 0} → FileSource R → R
runtime_of source = source.rt.now
