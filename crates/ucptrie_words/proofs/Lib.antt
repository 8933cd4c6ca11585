mod ByteLemmas
mod RowSteps
mod WordSteps
