mod TableWalkLemmas
mod TrailLemmas
mod TrailMeasure
mod TrailAnswers
