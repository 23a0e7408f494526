use Rattle.std.proofs.Common.{refl, rules}
use Rattle.std.specs.Int.{w32}
use Rattle.mp4_frame.specs.Bytes.{bytes_of_fields_onto}
use Rattle.mp4_frame.proofs.Fields.{signed_after}
use Rattle.mp4_flat.proofs.matrix.put_matrix.Goals as goal

pub returns-clause-put : goal.returns-clause-put
unfolding bytes_of_fields_onto
returns-clause-put c =
    let m = c.args.matrix.now in
    signed_after w32 _ _ _ 4 m.w (search rules) c.put_i32.ensures.put
    (signed_after w32 _ _ _ 4 m.y (search rules) c.put_i32-at-8.ensures.put
    (signed_after w32 _ _ _ 4 m.x (search rules) c.put_i32-at-7.ensures.put
    (signed_after w32 _ _ _ 4 m.v (search rules) c.put_i32-at-6.ensures.put
    (signed_after w32 _ _ _ 4 m.d (search rules) c.put_i32-at-5.ensures.put
    (signed_after w32 _ _ _ 4 m.c (search rules) c.put_i32-at-4.ensures.put
    (signed_after w32 _ _ _ 4 m.u (search rules) c.put_i32-at-3.ensures.put
    (signed_after w32 _ _ _ 4 m.b (search rules) c.put_i32-at-2.ensures.put
    (signed_after w32 _ _ _ 4 m.a (search rules) c.put_i32-at.ensures.put refl))))))))
