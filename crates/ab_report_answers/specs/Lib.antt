-- That a text has a report; and where a report is cut short.
pub mod SomeReports
