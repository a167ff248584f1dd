pub mod SurveyLemmas
