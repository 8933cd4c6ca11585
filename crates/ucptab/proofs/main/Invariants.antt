use Rattle.ucptab.proofs.main.Given as goal

abbrev pub ghosts-status-L-Ledger : goal.ghosts-status-L-Ledger
ghosts-status-L-Ledger a = record { name = a.reads.name; parts = a.reads.parts }

abbrev pub ghosts-status-K-Ledger : goal.ghosts-status-K-Ledger
ghosts-status-K-Ledger a = record { name = a.writes.name; parts = a.writes.parts }
