use Rattle.std.proofs.Common.{◌++◌, ◌∷◌, [], map, length, codes, ap}
use Rattle.k_io.proofs.Writings.{writes_same}
use Rattle.k_report.proofs.LineLemmas.{part_first, part_then, part_last}
use Rattle.k_types.specs.Numbers.{numbers_below}
use Rattle.k_words.specs.Words.{text_of}
use Rattle.k_work.specs.declared.rows.WorkRow.{WorkRow}
use Rattle.k_work.specs.Lines.{process_line, row_words, work_lines}
use Rattle.k_work.specs.Tables.{total_row}
use Rattle.k_work.proofs.Parts.{first_failed, second_failed, third_failed, fourth_failed}
use Rattle.k_work.proofs.writing.write_work.Goals as goal

pub returns-in_err-put_word : goal.returns-in_err-put_word
unfolding work_lines
returns-in_err-put_word g c = first_failed _ _ _ _ ((codes "work" ∷ []) ∷ []) (map (process_line c.args.names.now c.args.table.now) (numbers_below (length c.args.table.now.procs))) ((codes "closing" ∷ row_words c.args.table.now.closing) ∷ []) ((codes "total" ∷ row_words (total_row c.args.table.now)) ∷ []) ((codes "end" ∷ []) ∷ []) c.from_residual.result _ c.from_residual.ensures.0 c.in_err-put_word.ensures.written

pub returns-in_err-put_processes : goal.returns-in_err-put_processes
unfolding work_lines
returns-in_err-put_processes g c =
    second_failed _ _ _ _ ((codes "work" ∷ []) ∷ []) (map (process_line c.args.names.now c.args.table.now) (numbers_below (length c.args.table.now.procs))) ((codes "closing" ∷ row_words c.args.table.now.closing) ∷ []) ((codes "total" ∷ row_words (total_row c.args.table.now)) ∷ []) ((codes "end" ∷ []) ∷ []) _ _ c.from_residual-in_err-put_processes.result _ c.from_residual-in_err-put_processes.ensures.0
    (part_first _ _ _ _ _ ((codes "work" ∷ []) ∷ []) c.in_ok-put_word.ensures.written) c.in_err-put_processes.ensures.written

pub returns-in_err-put_row : goal.returns-in_err-put_row
unfolding work_lines
returns-in_err-put_row g c =
    third_failed _ _ _ _ ((codes "work" ∷ []) ∷ []) (map (process_line c.args.names.now c.args.table.now) (numbers_below (length c.args.table.now.procs))) ((codes "closing" ∷ row_words c.args.table.now.closing) ∷ []) ((codes "total" ∷ row_words (total_row c.args.table.now)) ∷ []) ((codes "end" ∷ []) ∷ []) _ _ c.from_residual-in_err-put_row.result _ c.from_residual-in_err-put_row.ensures.0
    (part_then _ _ _ _ _ _ _ ((codes "work" ∷ []) ∷ []) (map (process_line c.args.names.now c.args.table.now) (numbers_below (length c.args.table.now.procs))) (part_first _ _ _ _ _ ((codes "work" ∷ []) ∷ []) c.in_ok-put_word.ensures.written) c.in_ok-put_processes.ensures.written) (writes_same _ _ _ _ _ _ _ (ap (λ (r : WorkRow). text_of ((codes "closing" ∷ row_words r) ∷ [])) c.closing_row.ensures) c.in_err-put_row.ensures.written)

pub returns-in_err-put_row-2 : goal.returns-in_err-put_row-2
unfolding work_lines
returns-in_err-put_row-2 g c =
    fourth_failed _ _ _ _ ((codes "work" ∷ []) ∷ []) (map (process_line c.args.names.now c.args.table.now) (numbers_below (length c.args.table.now.procs))) ((codes "closing" ∷ row_words c.args.table.now.closing) ∷ []) ((codes "total" ∷ row_words (total_row c.args.table.now)) ∷ []) ((codes "end" ∷ []) ∷ []) _ _ c.from_residual-in_err-put_row-2.result _ c.from_residual-in_err-put_row-2.ensures.0
    (part_then _ _ _ _ _ _ _ (((codes "work" ∷ []) ∷ []) ++ (map (process_line c.args.names.now c.args.table.now) (numbers_below (length c.args.table.now.procs)))) ((codes "closing" ∷ row_words c.args.table.now.closing) ∷ []) (part_then _ _ _ _ _ _ _ ((codes "work" ∷ []) ∷ []) (map (process_line c.args.names.now c.args.table.now) (numbers_below (length c.args.table.now.procs))) (part_first _ _ _ _ _ ((codes "work" ∷ []) ∷ []) c.in_ok-put_word.ensures.written) c.in_ok-put_processes.ensures.written) (writes_same _ _ _ _ _ _ _ (ap (λ (r : WorkRow). text_of ((codes "closing" ∷ row_words r) ∷ [])) c.closing_row.ensures) c.in_ok-put_row.ensures.written)) (writes_same _ _ _ _ _ _ _ (ap (λ (r : WorkRow). text_of ((codes "total" ∷ row_words r) ∷ [])) c.total.ensures) c.in_err-put_row-2.ensures.written)

pub returns : goal.returns
unfolding work_lines
returns g c =
    part_last _ _ _ _ _ _ _ (((((codes "work" ∷ []) ∷ []) ++ (map (process_line c.args.names.now c.args.table.now) (numbers_below (length c.args.table.now.procs)))) ++ ((codes "closing" ∷ row_words c.args.table.now.closing) ∷ [])) ++ ((codes "total" ∷ row_words (total_row c.args.table.now)) ∷ [])) ((codes "end" ∷ []) ∷ [])
    (part_then _ _ _ _ _ _ _ ((((codes "work" ∷ []) ∷ []) ++ (map (process_line c.args.names.now c.args.table.now) (numbers_below (length c.args.table.now.procs)))) ++ ((codes "closing" ∷ row_words c.args.table.now.closing) ∷ [])) ((codes "total" ∷ row_words (total_row c.args.table.now)) ∷ []) (part_then _ _ _ _ _ _ _ (((codes "work" ∷ []) ∷ []) ++ (map (process_line c.args.names.now c.args.table.now) (numbers_below (length c.args.table.now.procs)))) ((codes "closing" ∷ row_words c.args.table.now.closing) ∷ []) (part_then _ _ _ _ _ _ _ ((codes "work" ∷ []) ∷ []) (map (process_line c.args.names.now c.args.table.now) (numbers_below (length c.args.table.now.procs))) (part_first _ _ _ _ _ ((codes "work" ∷ []) ∷ []) c.in_ok-put_word.ensures.written) c.in_ok-put_processes.ensures.written) (writes_same _ _ _ _ _ _ _ (ap (λ (r : WorkRow). text_of ((codes "closing" ∷ row_words r) ∷ [])) c.closing_row.ensures) c.in_ok-put_row.ensures.written)) (writes_same _ _ _ _ _ _ _ (ap (λ (r : WorkRow). text_of ((codes "total" ∷ row_words r) ∷ [])) c.total.ensures) c.in_ok-put_row-2.ensures.written))
    c.put_word-2.ensures.written
