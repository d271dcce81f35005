pub mod RecordChecks
