-- The head, the octets and what is behind them are the front, its front and its rest.
use Rattle.std.proofs.Common.{◌∙◌, ◌++◌, List, ℕ, ap, take}
use Rattle.std.proofs.lemmas.List.{take-append-drop}
use Rattle.pb_monitor.proofs.pcap.Heads.whole.Goals as goal

pub returns-clause-parts : goal.returns-clause-parts
returns-clause-parts c =
    let all : List ℕ = c.args.octets.now in
    let rest : List ℕ = c.in_ok-front.rest.now in
    let head = c.in_ok-front.ensures.cases in
    let body = c.in_ok-octets.ensures.cases in
    ap (λ (more : List ℕ). take 16 all ++ more)
    (ap (λ (front : List ℕ). front ++ c.in_ok-octets.behind.now) body.1 ∙ ap (λ (more : List ℕ). take c.head-head.result.kept rest ++ more) body.2 ∙ take-append-drop c.head-head.result.kept rest ∙ head.2)
    ∙ take-append-drop 16 all
