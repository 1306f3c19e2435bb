mod NumberLemmas
mod UseLemmas
mod WorkedForms
mod WorkedUse
