-- What the words of a line say. They are taken from left to right, and the first fault counts:
-- a word that is missing, one that does not fit its place, and at last one too many.
use Rattle.std.specs.Prelude.{ℕ, ℤ, List, [], ◌∷◌, drop, Ok, Err, Result}
use Rattle.std.specs.Option.{ok_or}
use Rattle.text.specs.Decimals.{natural_of, integer_of, word_of}
use Rattle.bed.specs.declared.fault.LineFault.{LineFault}
use Rattle.bed.specs.declared.fault.LineFault.TheVariants.{MissingWord, ExtraWord, NotANumber}

-- a signed number of 32 bits
abbrev pub integer : List ℕ → Result ℤ LineFault
integer w = ok_or (integer_of w) NotANumber

-- an unsigned number of 32 bits
abbrev pub natural : List ℕ → Result ℕ LineFault
natural w = ok_or (natural_of w) NotANumber

-- a word of a block: a signed number of 16 bits, by its value or its bits
abbrev pub short : List ℕ → Result ℤ LineFault
short w = ok_or (word_of w) NotANumber

-- what the first word says, by the way to read it
abbrev pub first_as : {A : Type 0} → (List ℕ → Result A LineFault) → List (List ℕ) → Result A LineFault
first_as read [] = Err MissingWord
first_as read (w ∷ ws) = read w

-- what the first word says, and then what is made of it and the words after it
abbrev pub next : {A B : Type 0} → (List ℕ → Result A LineFault) → List (List ℕ) → (A → List (List ℕ) → Result B LineFault) → Result B LineFault
next read ws go = elim (first_as read ws) [ Ok a ↦ go a (drop 1 ws) | Err e ↦ Err e ]

-- what is made of something that was read
abbrev pub making : {A B : Type 0} → (A → B) → Result A LineFault → Result B LineFault
making f (Ok a) = Ok (f a)
making f (Err e) = Err e

-- what was read, where it has all the words
abbrev pub complete : {A : Type 0} → A → List (List ℕ) → Result A LineFault
complete a [] = Ok a
complete a (w ∷ ws) = Err ExtraWord

-- what one word says, and no more
abbrev pub only : {A : Type 0} → (List ℕ → Result A LineFault) → List (List ℕ) → Result A LineFault
only read ws = next read ws complete
