mod TakenWidths
