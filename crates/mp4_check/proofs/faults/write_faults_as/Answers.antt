use Rattle.std.proofs.Common.{◌≡◌, ◌∙◌, [], List, Some, ap, length, refl, subst}
use Rattle.std.specs.Prelude.{IfOk}
use Rattle.std.specs.declared.option.Option.{Option}
use Rattle.mp4_check.specs.BoxFaults.{faults_of_boxes}
use Rattle.mp4_check.specs.FaultValues.{fault_at, values_of}
use Rattle.mp4_check.specs.Faults.{faults_in, file_of, lacks_movie, tracks_faults}
use Rattle.mp4_check.specs.FragmentFaults.{fragment_faults}
use Rattle.mp4_check.specs.Indexes.{index_faults}
use Rattle.mp4_content.specs.Paths.{in_file}
use Rattle.mp4_check.specs.contracts.indexes.OwnReadingIndexReading.TheImpl as own
use Rattle.mp4_check.specs.declared.fault.What.{What}
use Rattle.mp4_check.specs.declared.lines.Told.{Told}
use Rattle.mp4_check.proofs.FileSteps.{file_written}
use Rattle.mp4_check.proofs.Outcomes.{if_is, some_at}
use Rattle.mp4_check.proofs.ShownFaults.{form_laws}
use Rattle.mp4_check.proofs.faults.write_faults_as.Goals as goal
use Rattle.mp4_frame.specs.declared.codes.TheConstants as names
use Rattle.mp4_walk.specs.Walk.{Walk}
use Rattle.mp4_walk.specs.declared.tree_box.TreeBox.{TreeBox}

pub returns-clause-check : goal.returns-clause-check
returns-clause-check g c =
    let boxes = c.args.boxes.now in
    let known = g.B.Shown.known in
    let reading = g.B.Shown.named_reading in
    let start = c.args.output.now in
    let end = c.write_all_faults.new.output in
    if_is c.args.walk.now.bytes (λ file bytes. λ is.
    let one : c.write_boxes.new.walk.bytes ≡ Some file =
    ap (λ (w : Walk). w.bytes) c.in_ok-with_boxes.ensures.kept ∙ bytes in
    let two : c.write_movie.new.walk.bytes ≡ Some file =
    ap (λ (w : Walk). w.bytes) c.in_ok-with_movie.ensures.kept ∙ one in
    let three : c.file_facts.new.walk.bytes ≡ Some file =
    ap (λ (w : Walk). w.bytes) c.in_ok-facts.ensures.kept ∙ two in
    let four : c.write_fragments.new.walk.bytes ≡ Some file =
    ap (λ (w : Walk). w.bytes) c.in_ok-with_fragments.ensures.kept ∙ three in
    let met = some_at c.write_boxes.new.walk.bytes file _ one c.in_ok-with_movie.ensures.met is
    (c.new-met.ensures file) in
    let facts = some_at c.write_movie.new.walk.bytes file _ two c.in_ok-facts.ensures.value is met in
    let last = rw c.in_ok-last.ensures.ok at c.one_fault.ensures in
    subst (λ (bs : List TreeBox).
    IfOk c.write_all_faults.result (λ (told : Told).
    g.F.FaultForm.writes c.args.form c.args.told (faults_in known reading (own.ghosts).reads file bs) start end
    told)) is
    (file_written (g.F.FaultForm.writes c.args.form)
    (form_laws g.F.FaultForm.writes g.F.FaultForm.writes_none g.F.FaultForm.writes_more c.args.form) c.args.told
    c.in_ok-with_boxes.with_boxes c.in_ok-with_movie.with_movie
    c.in_ok-with_fragments.with_fragments c.in_ok-with_indexes.with_indexes c.write_all_faults.result
    (faults_of_boxes known reading file [] boxes) (tracks_faults file boxes)
    (fragment_faults (file_of file boxes)) (index_faults (own.ghosts).reads file boxes (length file))
    (fault_at 0 (in_file names.MOOV 0) (lacks_movie boxes)) (values_of c.in_ok-last.last.items) start
    c.write_boxes.new.output c.write_movie.new.output
    c.write_fragments.new.output
    c.write_indexes.new.output end
    (some_at c.args.walk.now.bytes file _ bytes c.in_ok-with_boxes.ensures.value)
    (some_at c.write_boxes.new.walk.bytes file _ one c.in_ok-with_movie.ensures.value is (c.new-met.ensures file))
    (c.in_ok-with_fragments.ensures.value (file_of file boxes) three refl facts)
    (some_at c.write_fragments.new.walk.bytes file _ four c.in_ok-with_indexes.ensures.value)
    (last ∙ ap (λ (w : Option What). fault_at 0 (in_file names.MOOV 0) w) c.lacks_movie.ensures)
    (rw c.deref.ensures.value at c.write_all_faults.ensures)))
