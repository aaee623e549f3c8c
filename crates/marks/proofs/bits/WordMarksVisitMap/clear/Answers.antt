use Rattle.std.proofs.Common.{◌≡◌, ◌%◌, ◌∙◌, arith}
use Rattle.marks.specs.Words.{bits_of}
use Rattle.marks.proofs.Sets.{after_clear, clear_parts, clear_whole}
use Rattle.marks.proofs.bits.WordMarksVisitMap.clear.Goals as goal

pub returns-then-rest-ne0 : goal.returns-then-rest-ne0
returns-then-rest-ne0 c =
    let n = c.args.self.now.limit in
    let s = bits_of c.args.self.now in
    let first = c.clear_words in
    let last = c.clear_rest in
    let same = last.ensures.same ∙ first.ensures.same in
    let bits = clear_parts n s (bits_of first.new.self) first.ensures.bits (bits_of last.new.self) last.ensures.bits in
    record { after = after_clear n last.new.self.limit s (bits_of last.new.self) same bits; same = same; bits = bits }

pub returns-else-rest-ne0 : goal.returns-else-rest-ne0
returns-else-rest-ne0 c =
    let n = c.args.self.now.limit in
    let s = bits_of c.args.self.now in
    let first = c.clear_words in
    let zero : n % 64 ≡ 0 = omega arith in
    let bits = clear_whole n s (bits_of first.new.self) first.ensures.bits zero in
    record { after = after_clear n first.new.self.limit s (bits_of first.new.self) first.ensures.same bits; same = first.ensures.same; bits = bits }
