use mathlib.Core.List.{List, [], ◌∷◌, ◌++◌}
use mathlib.Core.Path.{◌≡◌, sym, ◌∙◌, ap}
use Prim.Native.Nat.{ℕ, ◌+◌, ◌≤◌, ◌<◌}
use native.Mathlib.Numerals.{add-one}
use native.Mathlib.Omega.{arith}
use lib.ListN.{length, get_or, set, take, drop}
use lib.Seq.{take-suc, length-take-le}
use Rattle.model.specs.File.{is_old}
use Rattle.model.specs.Says.{filled}
use Rattle.model.proofs.Lines.{every_length, thresholds_length}
use Rattle.lists.proofs.Front.{front_store, front_all}
use Rattle.reader.proofs.read_lines.Invariants.{Begun}
use Rattle.reader.proofs.read_lines.Goals as goal

module _ {new old : List ℕ} {n : ℕ} (count : length new ≡ n) where
  -- one more entry is stored
  begun_more : {l : List ℕ} {i v : ℕ} → n ≤ length old → i < n → v ≡ get_or new i 0 → Begun new old i l → Begun new old (i + 1) (set l i v)
  begun_more {l} {i} {v} room h is begun =
      let next : take i new ++ (v ∷ []) ≡ take (i + 1) new = rw (is, add-one) (sym (take-suc new i 0 (omega arith))) in
      record {
        entries =
            front_store (take i new) old l i v (length-take-le i new (omega arith)) (omega arith) begun.entries
            ∙ ap (λ (r : List ℕ). r ++ drop (i + 1) old) next;
      }

  -- all are stored
  begun_all : {l : List ℕ} {i : ℕ} → i ≡ n → Begun new old i l → l ≡ filled 0 new old
  begun_all last begun = let all = last ∙ sym count in front_all (λ r. r) new old all all begun.entries

pub loop-i-preserved : goal.loop-i-preserved
loop-i-preserved c =
    let file = c.args.file.bytes.now in
    let m = c.args.file.model in
    let room = c.requires in
    let inside = c.loop-i-test.true in
    let inv = c.loop-i.invariant in record {
      kinds = begun_more (every_length _ _ _) room.0 inside c.kind.ensures inv.kinds;
      thresholds = begun_more (thresholds_length (is_old m.lines m.levels file) _ _) room.1 inside c.threshold.ensures inv.thresholds;
    }

pub returns : goal.returns
returns c =
    let file = c.args.file.bytes.now in
    let m = c.args.file.model in
    let inv = c.loop-i.invariant in
    let all : c.loop-i.i ≡ m.lines = omega arith in record {
      kinds = begun_all (every_length _ _ _) all inv.kinds;
      thresholds = begun_all (thresholds_length (is_old m.lines m.levels file) _ _) all inv.thresholds;
    }
