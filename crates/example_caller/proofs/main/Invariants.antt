use Rattle.example_caller.proofs.main.Given as goal

-- the ledger is that of the blank
abbrev pub ghosts-thinnest_strip : goal.ghosts-thinnest_strip
ghosts-thinnest_strip a = record { name = a.blank.name; parts = a.blank.parts }
