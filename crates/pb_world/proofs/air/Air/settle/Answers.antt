use Rattle.std.proofs.Common.{◌≡◌, ◌∙◌, ◌-◌, ◌++◌, ap, arith, drop, length, map, take, subst, sym}
use Rattle.law_streams.specs.Judgement.{recent_at}
use Rattle.std.specs.List.{drop-map}
use Rattle.std.proofs.lemmas.List.{length-drop}
use Rattle.std.proofs.Math.Seq.{take-append_seam}
use Rattle.pb_world.specs.Airtimes.{air_of}
use Rattle.pb_world.proofs.air.Air.settle.Goals as goal

pub returns-clause-recent : goal.returns-clause-recent
returns-clause-recent c =
    let settled = c.settle-settled.result in
    let es = c.args.self.now.recent.items in
    let rest = drop settled es in
    let left : c.len.result - settled ≡ length rest = omega (arith, c.len.ensures, length-drop settled es) in
    ap (map air_of)
    (c.truncate.ensures.items ∙ ap (take (c.len.result - settled)) c.rotate_left.ensures.items
    ∙ ap (λ n. take n (rest ++ take settled es)) left ∙ take-append_seam rest (take settled es))
    ∙ sym (drop-map air_of settled es)
    ∙ subst (λ xs. drop settled (map air_of xs) ≡ recent_at c.args.delay c.args.moment (map air_of xs)) c.deref.ensures.value c.settle-settled.ensures.others
