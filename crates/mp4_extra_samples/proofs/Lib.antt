mod SizeSteps
mod TakenGroups
mod TakenSizes
