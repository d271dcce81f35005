-- The tables of an accepted file.
use Rattle.rules.specs.File.{Tables}
use Rattle.file.specs.Tables.{tables_of}
use Rattle.accepted_file.specs.declared.AcceptedFile.{AcceptedFile}

abbrev pub accepted_tables : AcceptedFile → Tables
accepted_tables file = tables_of file.tables.bytes.now
