-- Of entries, and of what a tap senses of them.
use Rattle.std.proofs.Common.{ℕ, List, [], ◌∷◌, Option, Some, None}
use Rattle.std.specs.List.{cons_option}
use Rattle.law_turn.specs.Spans.{Span}
use Rattle.law_model.specs.Trace.{Entry}
use Rattle.law_model.specs.Medium.{sensed}
use Rattle.law_model.proofs.Window.{EachSpan}
use Rattle.law_token.specs.Lists.{Each}
use Rattle.law_token.specs.Places.{heard_span}

onto : (F : Option Span → Type 0) (o : Option Span) (xs : List Span) → F o → EachSpan (λ x. F (Some x)) xs → EachSpan (λ x. F (Some x)) (cons_option o xs)
onto F None xs h all = all
onto F (Some x) xs h all = (h, all)

from_head : (F : Option Span → Type 0) (o : Option Span) (xs : List Span) → F None → EachSpan (λ x. F (Some x)) (cons_option o xs) → F o × EachSpan (λ x. F (Some x)) xs
from_head F None xs none all = (none, all)
from_head F (Some x) xs none all = (all.0, all.1)

pub to_spans : (F : Option Span → Type 0) (delay tap since : ℕ) (es : List Entry) → Each (λ e. F (heard_span delay tap since e)) es → EachSpan (λ x. F (Some x)) (sensed delay tap since es)
to_spans F delay tap since [] all = tt
to_spans F delay tap since (e ∷ es) all = onto F (heard_span delay tap since e) (sensed delay tap since es) all.0 (to_spans F delay tap since es all.1)

pub from_spans : (F : Option Span → Type 0) (delay tap since : ℕ) (es : List Entry) → F None → EachSpan (λ x. F (Some x)) (sensed delay tap since es) → Each (λ e. F (heard_span delay tap since e)) es
from_spans F delay tap since [] none all = tt
from_spans F delay tap since (e ∷ es) none all =
    let h = from_head F (heard_span delay tap since e) (sensed delay tap since es) none all in (h.0, from_spans F delay tap since es none h.1)
