pub mod CommandQuestions
