-- What is proved of these definitions, by the instance that is found.
pub mod CaseBy
