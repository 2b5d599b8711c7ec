use Rattle.std.proofs.Common.{◌≡◌, ◌+◌, ◌-◌, ◌≤◌, ◌++◌, [], SomeIff, subst, ap, ◌∙◌, length, arith}
use Rattle.std.proofs.lemmas.List.{append-nil}
use Rattle.std.proofs.lemmas.Result.{err_from_is_err_and}
use Rattle.std.specs.Option.{ok_or}
use Rattle.domain.specs.declared.fault.WriteFault.TheVariants.{Place}
use Rattle.files.specs.Contents.{header_bytes, file_bytes}
use Rattle.files.specs.Writing.{raw_of, records_of, file_length}
use Rattle.files.proofs.WriteSteps.{begun_first, begun_more, begun_all, wrote_as, header, action_records, goal_records, file_parts, file_long, wrote_file, file_refused}
use Rattle.files.proofs.write_file.write_file.Goals as goal

pub returns-in_err-ok_or : goal.returns-in_err-ok_or
returns-in_err-ok_or g c =
    let a = c.args in
    let refusal = c.in_err-ok_or.ensures in
    let both = file_refused a.kind g.S.Record.written g.G.Record.written a.size a.start a.actions.now a.goals.now a.place.now _ refusal.ok_part c.room_after_file.ensures in
    let p = err_from_is_err_and c.from_residual.result c.from_residual.ensures.1 in
    let fault = refusal.value ∙ ap (λ left. ok_or left Place) refusal.ok_part in
    record { value = rw (p.1, p.2) (fault ∙ both.0); place = both.1 }

pub returns : goal.returns
returns g c =
    let a = c.args in
    let k = a.kind in
    let ws = g.S.Record.written in
    let wg = g.G.Record.written in
    let bytes = file_bytes k (raw_of ws wg a.size a.start a.actions.now a.goals.now) in
    let head = header k ws wg a.size a.start a.actions.now a.goals.now in
    let xs = action_records k ws wg a.size a.start a.actions.now a.goals.now in
    let ys = goal_records k ws wg a.size a.start a.actions.now a.goals.now in
    let p = a.place.now in
    let n = c.write-count.result in
    let m = c.write_parts-count.result in
    let long = file_length k ws wg a.actions.now a.goals.now in
    let fits = subst (λ left. SomeIff left (long ≤ length p) (length p - long)) c.in_ok-ok_or.ensures.ok_part c.room_after_file.ensures in
    let all : head ++ (xs ++ (ys ++ [])) ≡ bytes = ap (λ t. head ++ (xs ++ t)) (append-nil ys) ∙ file_parts k ws wg a.size a.start a.actions.now a.goals.now in
    let first = begun_first bytes head (xs ++ (ys ++ [])) p c.write-count.new.place n all (wrote_as _ _ _ _ _ (ap (λ h. header_bytes k h.size h.actions h.goals h.start) c.new-header.ensures) c.write-count.ensures) in
    let second = begun_more bytes xs (ys ++ []) p _ n first c.write_parts-count.new.place m (wrote_as _ _ _ _ _ (ap (λ l. records_of l ws a.actions.now) c.layout.ensures) c.write_parts-count.ensures) in
    let third = begun_more bytes ys [] p _ (n + m) second c.write_parts-count-2.new.place c.write_parts-count-2.result (wrote_as _ _ _ _ _ (ap (λ l. records_of l wg a.goals.now) c.layout-2.ensures) c.write_parts-count-2.ensures) in
    let both = wrote_file bytes p _ _ (omega (arith, fits.0, file_long k ws wg a.size a.start a.actions.now a.goals.now)) (begun_all bytes p _ _ third) in
    record { value = both.0; place = both.1 }
