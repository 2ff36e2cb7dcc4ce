use Rattle.std.proofs.Common.{◌≡◌, take, map, string_bytes}
use Rattle.bounds_tool.specs.Run.{texts}
use Rattle.bounds_start.proofs.lent.Given as goal

-- the words before this one are lent
abbrev pub invariant-words : goal.invariant-words
invariant-words l = texts l.words.items ≡ map string_bytes (take l.word-index l.kept)
