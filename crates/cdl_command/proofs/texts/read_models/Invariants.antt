use Rattle.std.proofs.Common.{◌≡◌, ◌+◌, ◌<◌, length, map, string_bytes}
use Rattle.std.specs.Io.KnownBytes.{IsAtEnd}
use Rattle.cdl_command.specs.inner.Reads.{due_behind}
use Rattle.cdl_command.specs.Texts.{FirstHold, HaveTrees}
use Rattle.cdl_command.proofs.texts.read_models.Given as goal

abbrev pub invariant-loop-i : goal.invariant-loop-i
invariant-loop-i g l =
    record {
      hold : FirstHold (g.F.Files.contents l.fn.files) (map string_bytes l.names) l.models.texts;
      have : HaveTrees l.models.texts l.models.trees;
      many : length l.models.texts ≡ l.i;
      begun : g.F.Files.begun l.files ≡ g.F.Files.begun l.fn.files + l.i;
      due : g.F.Files.due l.files ≡ due_behind l.i (g.F.Files.due l.fn.files);
      contents : g.F.Files.contents l.files ≡ g.F.Files.contents l.fn.files;
      kept : g.F.Files.faults l.files ≡ g.F.Files.faults l.fn.files;
      end : 0 < l.i → IsAtEnd (g.F.Files.rest l.files);
    }
