use Rattle.std.proofs.{Common.{◌≡◌, ◌∙◌, List, ℕ, [], None, Option, Some, ap, append-nil, rules}, KnownBytes.Appends-of_writes}
use Rattle.std.{proofs.lemmas.Result.on_ok_weaker, specs.Io.KnownBytes.{Appends, append_known}}
use Rattle.vecmap_run.specs.Print.{buffer_bytes}
use Rattle.vecmap_run.proofs.serve.print.Goals as goal

-- Sending moves the gathered bytes to the writer, so that what was held, with the gathered bytes, is held by the writer
-- alone.
Appends-sent : (start old new : Option (List ℕ)) (gathered text : List ℕ) → Appends (append_known start []) (append_known old gathered) text → Appends old new gathered → Appends start new text
Appends-sent None old new gathered text held sent = tt
Appends-sent (Some s) None new gathered text held sent = absurd held
Appends-sent (Some s) (Some o) None gathered text held sent = absurd sent
Appends-sent (Some s) (Some o) (Some n) gathered text held sent = rw append-nil at (sent ∙ held)

pub returns : goal.returns
returns g c =
    let contents = g.W.Write.contents in
    let (same, grown) = Appends-of_writes (λ s. s.writer.ghost_name) (λ s. buffer_bytes contents s) _ _ _ c.in_ok-writeln.ensures.writes in
    let name = same ∙ ap (λ w. w.ghost_name) c.new-buffer.ensures.writer in
    let start : buffer_bytes contents c.new-buffer.result ≡ append_known (contents c.args.writer.now) [] = rw (c.new-buffer.ensures.writer, c.new-buffer.ensures.gathered) in
    let all = on_ok_weaker c.send.result (λ sent. Appends-sent _ _ _ _ _ (rw start at grown) sent) c.send.ensures in
    search rules
