-- The tables of a file that was read, with its index.
use Rattle.rules.specs.File.{Tables}
use Rattle.file.specs.Tables.{tables_of}
use Rattle.views.specs.declared.indexed.IndexedFile.{IndexedFile}

abbrev pub tables_in : IndexedFile → Tables
tables_in file = tables_of file.bytes.now
