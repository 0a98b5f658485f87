-- A line of hex, pair by pair.
use Rattle.std.proofs.Common.{◌≡◌, ℕ, ◌+◌, ◌<◌, List, [], ◌∷◌, ◌++◌, length, get_or, drop, subst, arith, Bool, true, false, cond, Option, Some, None, refl, ap, sym, ◌∙◌, append_assoc, append-nil, add-one, drop-cons}
use Rattle.std.specs.Prelude.{not, IfSome, is_some}
use Rattle.std.specs.Option.{option_map}
use Rattle.std.proofs.lemmas.Grind.{common_steps}
use Rattle.pb_telegram.specs.Faults.{octets}
use Rattle.pb_telegram.specs.Receiving.{Received, StandsFor}
use Rattle.pb_telegram.specs.declared.chars.RxChar.{RxChar}
use Rattle.pb_decode.specs.Characters.{is_blank, digits_of, before, character_of, characters_of_pairs, characters_of}

-- the characters so far, and those of the rest of the line
abbrev pub with_rest : List RxChar → List ℕ → Option (List RxChar)
with_rest chars digits = option_map (λ more. chars ++ more) (characters_of_pairs digits)

-- the characters of a line that came to a receiver, where the rest of the line is to come
pub record Fed (receiver : Received) (line rest : List ℕ) : Type 0 where
  pub chars : List RxChar
  pub stands : StandsFor receiver chars
  pub whole : characters_of line ≡ with_rest chars (digits_of rest)

-- ---- the next byte

digits_of-blank : (byte : ℕ) (rest : List ℕ) → is_blank byte ≡ true → digits_of (byte ∷ rest) ≡ digits_of rest
digits_of-blank byte rest blank = ap (λ (b : Bool). cond (not b) (byte ∷ digits_of rest) (digits_of rest)) blank

digits_of-digit : (byte : ℕ) (rest : List ℕ) → is_blank byte ≡ false → digits_of (byte ∷ rest) ≡ byte ∷ digits_of rest
digits_of-digit byte rest digit = ap (λ (b : Bool). cond (not b) (byte ∷ digits_of rest) (digits_of rest)) digit

-- the rest of a line is its next byte and what follows
next_of : (line : List ℕ) (i : ℕ) → i < length line → drop i line ≡ get_or line i 0 ∷ drop (i + 1) line
next_of line i within = rw (add-one, drop-cons line i 0) refl

pub digits-blank : (line : List ℕ) (i : ℕ) → i < length line → is_blank (get_or line i 0) ≡ true
    → digits_of (drop i line) ≡ digits_of (drop (i + 1) line)
digits-blank line i within blank = ap digits_of (next_of line i within) ∙ digits_of-blank (get_or line i 0) (drop (i + 1) line) blank

pub digits-next : (line : List ℕ) (i : ℕ) → i < length line → is_blank (get_or line i 0) ≡ false
    → digits_of (drop i line) ≡ get_or line i 0 ∷ digits_of (drop (i + 1) line)
digits-next line i within digit = ap digits_of (next_of line i within) ∙ digits_of-digit (get_or line i 0) (drop (i + 1) line) digit

-- ---- what came to a receiver

option_map-nil : (found : Option (List RxChar)) → option_map (λ (more : List RxChar). [] ++ more) found ≡ found
option_map-nil None = refl
option_map-nil (Some chars) = refl

pub fed-start : (receiver : Received) (line : List ℕ) → StandsFor receiver [] → Fed receiver line (drop 0 line)
fed-start receiver line none = record { chars = []; stands = none; whole = sym (option_map-nil (characters_of line)) }

option_map-before : (chars : List RxChar) (char : RxChar) (found : Option (List RxChar))
    → option_map (λ (more : List RxChar). chars ++ more) (before (Some char) found) ≡ option_map (λ (more : List RxChar). (chars ++ char ∷ []) ++ more) found
option_map-before chars char None = refl
option_map-before chars char (Some more) = ap Some (sym (append_assoc chars (char ∷ []) more))

-- what is left of a line, by its next two bytes that count
two_digits : (rest middle behind : List ℕ) (high low : ℕ) → digits_of rest ≡ high ∷ digits_of middle → digits_of middle ≡ low ∷ digits_of behind
    → digits_of rest ≡ high ∷ low ∷ digits_of behind
two_digits rest middle behind high low first second = first ∙ ap (λ (ds : List ℕ). high ∷ ds) second

pub fed-pair : (receiver more : Received) (char : RxChar) (high low : ℕ) (line rest middle behind : List ℕ)
    → digits_of rest ≡ high ∷ digits_of middle → digits_of middle ≡ low ∷ digits_of behind → character_of high low ≡ Some char
    → ((chars : List RxChar) → StandsFor receiver chars → StandsFor more (chars ++ char ∷ []))
    → Fed receiver line rest → Fed more line behind
fed-pair receiver more char high low line rest middle behind first second found stands f = record {
  chars = f.chars ++ char ∷ [];
  stands = stands f.chars f.stands;
  whole = f.whole ∙ ap (with_rest f.chars) (two_digits rest middle behind high low first second)
      ∙ ap (λ (c : Option RxChar). option_map (λ (more : List RxChar). f.chars ++ more) (before c (characters_of_pairs (digits_of behind)))) found
      ∙ option_map-before f.chars char (characters_of_pairs (digits_of behind));
}

pub fed-no_pair : (receiver : Received) (high low : ℕ) (line rest middle behind : List ℕ)
    → digits_of rest ≡ high ∷ digits_of middle → digits_of middle ≡ low ∷ digits_of behind → character_of high low ≡ None
    → Fed receiver line rest → characters_of line ≡ None
fed-no_pair receiver high low line rest middle behind first second none f =
    f.whole ∙ ap (with_rest f.chars) (two_digits rest middle behind high low first second)
    ∙ ap (λ (c : Option RxChar). option_map (λ (more : List RxChar). f.chars ++ more) (before c (characters_of_pairs (digits_of behind)))) none

pub fed-odd : (receiver : Received) (high : ℕ) (line rest middle : List ℕ) → digits_of rest ≡ high ∷ digits_of middle
    → digits_of middle ≡ [] → Fed receiver line rest → characters_of line ≡ None
fed-odd receiver high line rest middle first none f = f.whole ∙ ap (with_rest f.chars) (first ∙ ap (λ (ds : List ℕ). high ∷ ds) none)

pub fed-whole : (receiver : Received) (line rest : List ℕ) → digits_of rest ≡ [] → (f : Fed receiver line rest) → characters_of line ≡ Some f.chars
fed-whole receiver line rest none f = f.whole ∙ ap (with_rest f.chars) none ∙ ap Some (append-nil f.chars)

pub fed-stands : (receiver : Received) (line rest : List ℕ) → digits_of rest ≡ [] → Fed receiver line rest
    → IfSome (characters_of line) (StandsFor receiver)
fed-stands receiver line rest none f =
    subst (λ (found : Option (List RxChar)). IfSome found (StandsFor receiver)) (sym (fed-whole receiver line rest none f)) f.stands

pub count-more : (receiver more : Received) (chars : List RxChar) (char : RxChar) → StandsFor receiver chars
    → StandsFor more (chars ++ char ∷ []) → more.fed ≡ receiver.fed + 1
count-more receiver more chars char old new =
    let lengths : length (octets (chars ++ char ∷ [])) ≡ length (octets chars) + 1 = grind (arith, common_steps) in
    new.octets.fed ∙ lengths ∙ ap (λ (n : ℕ). n + 1) (sym old.octets.fed)

-- ---- what a line that is hex, or that is none, comes to

pub of_characters : (found : Option (List RxChar)) (receiver : Received) (G : Option (List RxChar) → Type 0) → is_some found ≡ true
    → IfSome found (StandsFor receiver) → ((chars : List RxChar) → StandsFor receiver chars → G (Some chars)) → G found
of_characters None receiver G hex stands each = absurd (let wrong : false ≡ true = hex in cc)
of_characters (Some chars) receiver G hex stands each = each chars stands

pub no_characters : (found : Option (List RxChar)) → is_some found ≡ false → found ≡ None
no_characters None none = refl
no_characters (Some chars) none = absurd (let wrong : true ≡ false = none in cc)
