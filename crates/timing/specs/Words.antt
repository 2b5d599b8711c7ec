-- What is printed of an answer.
use Rattle.std.specs.Prelude.{ℕ, List, ◌++◌, Some, None, codes, decimal, Option}

-- a dash where there is no cost
abbrev pub cost_words : Option ℕ → List ℕ
cost_words (Some c) = decimal c
cost_words None = codes "-"

-- the two least costs and the length of the plan
abbrev pub answer_words : Option ℕ → Option ℕ → ℕ → List ℕ
answer_words without with len = codes "costs " ++ (cost_words without ++ (codes " " ++ (cost_words with ++ (codes " plan " ++ decimal len))))
