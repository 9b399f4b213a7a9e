pub mod Cases
pub mod CaseLaws
pub mod Report
pub mod ReportLaws
