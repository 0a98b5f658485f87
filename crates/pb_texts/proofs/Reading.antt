-- What a file says, by what is known of a scenario or a fault that was read from it.
use Rattle.std.proofs.Common.{◌≡◌, ◌≢◌, ◌∙◌, ℕ, List, Bool, true, false, cond, Option, Some, None, Result, Ok, Err, refl, ap}
use Rattle.std.proofs.lemmas.Str.{IsUtf8-from_is_utf8, is_utf8-from_IsUtf8}
use Rattle.std.specs.Prelude.{IfErr, IfOk}
use Rattle.std.specs.Str.{is_utf8}
use Rattle.toml.specs.Data.{Members}
use Rattle.toml.specs.Parse.{parse_document}
use Rattle.pb_scenario.specs.Fields.{Fault}
use Rattle.pb_scenario.specs.Files.{IsToml, DescribesBy, RefusesBy}
use Rattle.pb_scenario.specs.declared.faults.ScenarioFault.{ScenarioFault}
use Rattle.pb_scenario.specs.declared.faults.ScenarioFault.TheVariants as code
use Rattle.pb_texts.specs.Faults.{table_fault}
use Rattle.pb_texts.specs.Files.{table_of, in_table, described}

table_of-toml : (file : List ℕ) (top : Members) → IsToml file top → table_of file ≡ Some top
table_of-toml file top toml =
    ap (λ (b : Bool). cond b (parse_document file) None) (is_utf8-from_IsUtf8 file toml.text) ∙ toml.document

no_table : (text : Bool) (document : Option Members) → ((top : Members) → text ≡ true → document ≡ Some top → ⊥) → cond text document None ≡ None
no_table false document none = refl
no_table true None none = refl
no_table true (Some top) none = absurd (none top refl refl)

table_of-none : (file : List ℕ) → ((top : Members) → IsToml file top → ⊥) → table_of file ≡ None
table_of-none file none =
    no_table (is_utf8 file) (parse_document file)
    (λ top text document. none top (record { text = IsUtf8-from_is_utf8 file text; document = document }))

module _ {X : Type 0} (read : Members → Result X Fault) where
  of_table : (file : List ℕ) (top : Members) (r : Result X Fault) → IsToml file top → read top ≡ r → described read (table_of file) ≡ in_table r
  of_table file top r toml is = ap (described read) (table_of-toml file top toml) ∙ ap in_table is

  is_described : (file : List ℕ) (s : X) → DescribesBy read file s → described read (table_of file) ≡ Ok s
  is_described file s d = of_table file d.0 (Ok s) d.1 d.2

  is_refused : (file : List ℕ) (f : ScenarioFault) → RefusesBy read file f → f ≢ code.NoMemory → described read (table_of file) ≡ Err (table_fault f)
  is_refused file code.NotToml none told = ap (described read) (table_of-none file none)
  is_refused file code.BadVersion r told = of_table file r.0 _ r.1 r.2
  is_refused file (code.Missing path) r told = of_table file r.0 _ r.1 r.2
  is_refused file (code.BadKind path) r told = of_table file r.0 _ r.1 r.2
  is_refused file (code.BadValue path) r told = of_table file r.0 _ r.1 r.2
  is_refused file (code.Unknown key) r told = of_table file r.0 _ r.1 r.2
  is_refused file (code.Twice path) r told = of_table file r.0 _ r.1 r.2
  is_refused file (code.NoSuchName path) r told = of_table file r.0 _ r.1 r.2
  is_refused file (code.StepOrder path) r told = of_table file r.0 _ r.1 r.2
  is_refused file (code.Params f) r told = of_table file r.0 _ r.1 r.2
  is_refused file code.TooMany r told = of_table file r.0 _ r.1 r.2
  is_refused file code.NoMemory r told = absurd (told refl)

  -- the answer of a reader
  pub answers-scenario : (file : List ℕ) (r : Result X ScenarioFault) → IfOk r (DescribesBy read file) → IfOk r (λ s. described read (table_of file) ≡ Ok s)
  answers-scenario file (Ok s) d = is_described file s d
  answers-scenario file (Err f) d = d

  pub answers-fault : (file : List ℕ) (r : Result X ScenarioFault) → IfErr r (RefusesBy read file)
      → IfErr r (λ f. f ≢ code.NoMemory → described read (table_of file) ≡ Err (table_fault f))
  answers-fault file (Ok s) refuses = refuses
  answers-fault file (Err f) refuses = is_refused file f refuses
