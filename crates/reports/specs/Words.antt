-- What is printed.
use Rattle.std.specs.Prelude.{◌≡◌, ℕ, List, [], ◌∷◌, ◌++◌, Some, Option, codes, decimal, refl}
use Rattle.std.specs.List.{flat_map, join_by}
use Rattle.std.specs.Fmt.{◌++?◌}
use Rattle.domain.specs.Faults.{read_number, position_of}
use Rattle.domain.specs.declared.fault.ReadFault.{ReadFault}
use Rattle.domain.specs.declared.fault.ReadFault.TheVariants.{Letter, Header, Count, Start, Cut, Bits, Field, End}

-- the refusal's number, and the record and the byte at fault
abbrev pub refusal_words : ℕ → ℕ → ℕ → List ℕ
refusal_words n r b = codes "refused " ++ (decimal n ++ (codes " record " ++ (decimal r ++ (codes " byte " ++ decimal b))))

-- what is asked of a file where the fault stands
abbrev pub question_words : ReadFault → List ℕ
question_words (Letter p) = codes "is the first byte the letter of a kind?"
question_words (Header p) = codes "is the header whole?"
question_words (Count p) = codes "are the counts within their limits?"
question_words (Start p) = codes "is the start a state?"
question_words (Cut p) = codes "is the record whole?"
question_words (Bits p) = codes "has the bit map only defined bits?"
question_words (Field p) = codes "is the field in range, and other than its absent value?"
question_words (End p) = codes "does the file end here?"

-- the line on a refused file
abbrev pub refusal_line : ReadFault → List ℕ
refusal_line fault = refusal_words (read_number fault) (position_of fault).«record» (position_of fault).byte ++ (codes ": " ++ question_words fault)

-- a row of items, and the word that stands for a row of none
abbrev pub row_words : {T : Type 0} → (T → List ℕ) → List ℕ → List T → List ℕ
row_words text none [] = none
row_words text none (x ∷ xs) = join_by text (codes " ") (x ∷ xs)

-- a space and an item, for each of a row; none where one has no text
abbrev pub rest_text : {T : Type 0} → (T → Option (List ℕ)) → List T → Option (List ℕ)
rest_text output [] = Some []
rest_text output (x ∷ xs) = (Some (codes " ") ++? output x) ++? rest_text output xs

-- the text of a row, if each of its items has one
abbrev pub row_text : {T : Type 0} → (T → Option (List ℕ)) → List ℕ → List T → Option (List ℕ)
row_text output none [] = Some none
row_text output none (x ∷ xs) = output x ++? rest_text output xs

-- A law of `row_text`, which no clause cites: where each item has a text, that of the row is those with a space between each two.
module _ {T : Type 0} (output : T → Option (List ℕ)) (text : T → List ℕ) (shown : (x : T) → output x ≡ Some (text x)) where
  rest_is : (xs : List T) → rest_text output xs ≡ Some (flat_map (λ x. codes " " ++ text x) xs)
  rest_is [] = refl
  rest_is (x ∷ xs) = rw (shown x, rest_is xs) refl

  pub row_text_is : (none : List ℕ) (row : List T) → row_text output none row ≡ Some (row_words text none row)
  row_text_is none [] = refl
  row_text_is none (x ∷ xs) = rw (shown x, rest_is xs) refl
